-- The cost of having sixteen slots: while sixteen lines are reserved, no other line has a slot.
use Rattle.std.specs.Prelude.{◌≡◌, ℕ, false}
use Rattle.book.specs.Meaning.{is_reserved, reserved_count}
use Rattle.condensed.specs.Condensed.{Condensed, IsSound, condensed}

-- In every sound state in which sixteen lines are reserved, no other line has a slot.
abbrev pub NoSlotForASeventeenth : Type 0
NoSlotForASeventeenth =
    (s : Condensed) → IsSound s → reserved_count condensed s ≡ 16 → (n : ℕ)
    → is_reserved condensed s n ≡ false
    → condensed.has_slot s n ≡ false
