-- An entry that fits may be set.
use Rattle.std.proofs.Common.{◌≤◌, sym, subst, arith}
use Rattle.book.specs.Exact.{FitsWithin}
use Rattle.book.specs.ExactState.{exact_state}
use Rattle.book.specs.Lemmas.ExactKeeps.{sound_with_entry}
use Rattle.book.proofs.exact_book.ExactBook.set.Goals as goal

pub invariant_of-self : goal.invariant_of-self
invariant_of-self c =
    let b = c.args.self.now in
    let later = c.max-self.result in
    let up : b.latest ≤ later = omega arith in
    let fits : FitsWithin later c.args.entry =
    subst (λ m. FitsWithin m c.args.entry) (sym c.max-self.ensures)
    c.requires.fits in
    record {
      sound = sound_with_entry (exact_state b) b.sound c.args.line c.args.entry later up fits;
    }
