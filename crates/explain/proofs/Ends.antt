-- Rows that are added at the end of a text.
use Rattle.std.proofs.Common.{◌≡◌, ℕ, ◌+◌, List, [], ◌++◌, Some, None, Option, Ok, Err, Result}
use Rattle.std.proofs.Common.{IfOk, string_bytes}
use Rattle.std.proofs.Common.{append_assoc, append-nil, refl, sym, ap, ◌∙◌, subst, add-one}
use Rattle.std.specs.Option.{ok_or}
use Rattle.std.specs.declared.string.String.{String}
use Rattle.memory.specs.Lines.{Lines}
use Rattle.protocol.specs.declared.fault.Fault.{Fault}
use Rattle.listing.specs.Listing.{end_rows, line_row, mem_rows}
use Rattle.listing.specs.Rows.{bad_row, mem_row}
use Rattle.explain.specs.Notes.{AddsNote, AddsRow, AddsRows}
use Rattle.explain.proofs.Rows.{bad_row_kept, mem_row_kept}
use Rattle.explain.proofs.Scan.{more_rows, row_with_note}

-- No row yet.
pub no_rows : (text : List ℕ) → AddsRows [] text text
no_rows text = record { lines = []; grown = sym (append-nil text); rows_alone = λ rest. refl }

-- The lines below a limit, one line more.
pub one_row_more :
    (lines : Lines) (line : ℕ) (text all new : List ℕ)
    → AddsRows (mem_rows lines line) text all → AddsRows (line_row line (lines line)) all new
    → AddsRows (mem_rows lines (line + 1)) text new
one_row_more lines line text all new h g =
    rw add-one (more_rows (mem_rows lines line) (line_row line (lines line)) text all new h g)

-- What is wrong with a file, and a line's value.
pub adds_bad_row : (fault : Fault) (old new : List ℕ) → AddsRow (bad_row fault) old new
    → AddsRows (bad_row fault) old new
adds_bad_row fault old new h = row_with_note (bad_row fault) old new (bad_row_kept fault) h

pub adds_mem_row :
    (line value : ℕ) (old new : List ℕ) → AddsRow (mem_row line value) old new
    → AddsRows (mem_row line value) old new
adds_mem_row line value old new h =
    row_with_note (mem_row line value) old new (mem_row_kept line value) h

module _ {A E : Type 0} where
  -- A fact that follows, of a text that is there.
  pub IfOk-map :
      (r : Result (String A) E) (P Q : List ℕ → Type 0) → ((new : List ℕ) → P new → Q new)
      → IfOk r (λ t. P (string_bytes t)) → IfOk r (λ t. Q (string_bytes t))
  IfOk-map (Ok t) P Q follows h = follows (string_bytes t) h
  IfOk-map (Err error) P Q follows h = tt

  -- The line that a memory has.
  pub adds_line_row :
      (r : Result (String A) E) (line value : ℕ) (found : Option ℕ) (fault : Fault) (old : List ℕ)
      → Ok value ≡ ok_or found fault
      → IfOk r (λ t. AddsRow (mem_row line value) old (string_bytes t))
      → IfOk r (λ t. AddsRows (line_row line found) old (string_bytes t))
  adds_line_row r line value None fault old e h = cc
  adds_line_row r line value (Some found) fault old e h =
      let same : value ≡ found = cc in
      IfOk-map r (AddsRow (mem_row line value) old) (AddsRows (mem_row line found) old)
      (λ new g. subst (λ v. AddsRows (mem_row line v) old new) same
      (adds_mem_row line value old new g)) h

  -- The end of a damaged file.
  pub adds_end_rows :
      (r : Result (String A) E) (found : Option Fault) (fault : Fault) (lines : Lines) (limit : ℕ)
      (old : List ℕ)
      → found ≡ Some fault → IfOk r (λ t. AddsRow (bad_row fault) old (string_bytes t))
      → IfOk r (λ t. AddsRows (end_rows found lines limit) old (string_bytes t))
  adds_end_rows r found fault lines limit old is h =
      IfOk-map r (AddsRow (bad_row fault) old) (AddsRows (end_rows found lines limit) old)
      (λ new g. subst (λ f. AddsRows (end_rows f lines limit) old new) (sym is)
      (adds_bad_row fault old new g)) h
