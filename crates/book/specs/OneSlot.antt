-- An example of what the number of slots promises: no book has more lines reserved at once.
use Rattle.book.specs.Meaning.{Kind, Keeps}
use Rattle.book.specs.Exact.{exact}

-- The exact book, as if it had only one slot.
abbrev pub one_slot : Kind
one_slot = record exact { slots = λ _. 1 }

-- It breaks the laws of a book, since it reserves a second line beside the first.
abbrev pub OneSlotIsTooFew : Type 0
OneSlotIsTooFew = ¬ (Keeps one_slot)
