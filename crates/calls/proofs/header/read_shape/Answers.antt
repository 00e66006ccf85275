-- Each letter and size that is read is the byte that a check looks at.
use Rattle.std.proofs.Common.{◌≡◌, true, false, get_or, is_some, Some, None, Ok, Option, Result, ap}
use Rattle.std.proofs.Common.{◌∙◌, arith}
use Rattle.std.specs.Option.{ok_or}
use Rattle.std.specs.Result.{MatchResult, IsErrAnd}
use Rattle.std.proofs.lemmas.Bool.Decides.{nat_tests}
use Rattle.protocol.specs.declared.fault.Fault.{Fault}
use Rattle.protocol.specs.declared.fault.Refusal.{Refusal}
use Rattle.protocol.specs.declared.fault.Refusal.TheVariants.{BadLetter}
use Rattle.calls.specs.Format.{book_named, has_sizes}
use Rattle.calls.specs.declared.file.BookKind.{BookKind}
use Rattle.calls.proofs.HeaderChecks.{wrong_size}
use Rattle.calls.proofs.Tails.{tail_length, warps_at, lines_at}
use Rattle.calls.proofs.header.read_shape.Goals as goal

-- A book that comes of a letter is the one that it names.
named_book :
    (named : Option BookKind) (tried : Result BookKind Refusal) (told : Result BookKind Fault)
    (P : Refusal → Fault → Type 0) (book : BookKind)
    → tried ≡ ok_or named BadLetter
    → MatchResult tried (λ b. told ≡ Ok b) (λ why. IsErrAnd told (P why))
    → told ≡ Ok book → named ≡ Some book
named_book None tried told P book e m is = let n = rw e at m in absurd (rw is at n)
named_book (Some b) tried told P book e m is = let n = rw e at m in cc

pub returns-then-warps-eq0 : goal.returns-then-warps-eq0
returns-then-warps-eq0 c =
    let bytes = c.args.bytes.now in
    let rest = c.in_ok-rest.rest.now in
    let h = c.in_ok-rest.ensures in
    let book = named_book _ _ _ _ _ c.try_from.ensures.answer c.map_err.ensures.cases
    c.in_ok-book.was in
    let some : is_some (book_named (get_or bytes 5 0)) ≡ true =
    rw (← (h.follows 0), ← c.from-letter.ensures) (ap is_some book) in
    let w = warps_at bytes rest h.follows c.from-warps.result c.from-warps.ensures in
    let l =
    lines_at bytes rest h.follows c.from-lines.result
    (c.from-lines.ensures ∙ c.from_be_bytes.ensures) in
    let not-sized : has_sizes bytes ≡ false = grind (arith, nat_tests) in
    rw c.in_file-then-warps-eq0.ensures (wrong_size bytes h.marks h.version some not-sized)

pub returns : goal.returns
returns c =
    let bytes = c.args.bytes.now in
    let rest = c.in_ok-rest.rest.now in
    let h = c.in_ok-rest.ensures in
    let w = warps_at bytes rest h.follows c.from-warps.result c.from-warps.ensures in
    let l =
    lines_at bytes rest h.follows c.from-lines.result
    (c.from-lines.ensures ∙ c.from_be_bytes.ensures) in
    record {
      marks = h.marks;
      version = h.version;
      book = rw (← (h.follows 0), ← c.from-letter.ensures)
          (named_book _ _ _ _ _ c.try_from.ensures.answer c.map_err.ensures.cases c.in_ok-book.was);
      size = grind (arith, nat_tests, tail_length rest 1);
      warps = w;
      lines = l;
    }
