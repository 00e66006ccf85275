-- The state of a `CondensedBook`: its fields.
use Rattle.std.specs.Prelude.{ℕ}
use Rattle.condensed.specs.Condensed.{Condensed, condensed_of}
use Rattle.condensed.specs.declared.slot.SlotIndex.{SlotIndex}
use Rattle.condensed.specs.declared.condensed_book.CondensedBook.{CondensedBook}

abbrev pub condensed_state : CondensedBook → Condensed
condensed_state b = condensed_of b.slots b.filter b.latest

-- The index of a slot.
abbrev pub slot_index : SlotIndex → ℕ
slot_index slot = slot.index
