-- An example of the cost of the filter: lines 70, 125, 81 and 122 each share an entry with line 5.
use Rattle.std.specs.Prelude.{◌≡◌, List, [], ◌∷◌}
use Rattle.book.specs.Exact.{Exact, exact, exact_new}
use Rattle.book.specs.Earliest.{both_after_calls}
use Rattle.book.specs.declared.call.BookCall.{BookCall}
use Rattle.book.specs.declared.call.BookCall.TheVariants.{Note}
use Rattle.condensed.specs.Condensed.{Condensed, condensed, condensed_new}

abbrev pub four_reads : List BookCall
four_reads = Note 70 (9, 1) ∷ Note 125 (7, 2) ∷ Note 81 (8, 0) ∷ Note 122 (7, 1) ∷ []

-- Both books after reads of those four lines.
abbrev pub after_four : Condensed × Exact
after_four = both_after_calls condensed (condensed_new, exact_new) four_reads

-- In the exact book line 5 was never read. In the condensed book it has the earliest of the four
-- marks.
pub record SharedMark : Type 0 where
  pub exactly : exact.read_mark after_four.1 5 ≡ (0, 0)
  pub condensed_to : condensed.read_mark after_four.0 5 ≡ (7, 1)
