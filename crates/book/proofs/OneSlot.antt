-- The exact book reserves two lines at once, so it has more slots than one.
use Rattle.std.proofs.Common.{◌≡◌, ℕ, zero, suc, ◌<◌, ◌≤◌, true, not, ◌==◌, refl, ap, ◌∙◌, arith}
use Rattle.protocol.specs.Limits.{line_limit}
use Rattle.book.specs.Lemmas.Counting.{different_lines}
use Rattle.book.specs.Meaning.{Reserves, is_reserved, reserved_count}
use Rattle.book.specs.Exact.{Exact, exact, exact_new}
use Rattle.book.specs.Lemmas.ExactKeeps.{exact_keeps, exact_new_is_sound}
use Rattle.book.specs.OneSlot.{OneSlotIsTooFew}

abbrev one : Exact
one = exact.reserve exact_new 0 (0, 0)

first : exact.Good one × Reserves exact exact_new one 0 (0, 0)
first = exact_keeps.reserves exact_new exact_new_is_sound 0 (0, 0) refl

abbrev two : Exact
two = exact.reserve one 1 (0, 0)

second : exact.Good two × Reserves exact one two 1 (0, 0)
second = exact_keeps.reserves one first.0 1 (0, 0) refl

both_reserved : (n : ℕ) → n < 2 → is_reserved exact two n ≡ true
both_reserved zero lt =
    let here : exact.stores two 0 ≡ 1 =
    (second.1.stays 0 (omega arith) (λ e. omega arith)).same_stores
    ∙ first.1.one_store in
    ap (λ m. not (m == 0)) here
both_reserved (suc zero) lt = ap (λ m. not (m == 0)) second.1.one_store
both_reserved (suc (suc n)) lt = absurd (omega arith)

more : (n : ℕ) → 2 ≤ n → n ≤ 1 → ⊥
more n two_lines most = omega arith

too_few : (s : Exact) → exact.Good s → 2 ≤ reserved_count exact s → OneSlotIsTooFew
too_few s good two_lines keeps = more (reserved_count exact s) two_lines (keeps.within_slots s good)

pub one_slot_is_too_few : OneSlotIsTooFew
one_slot_is_too_few =
    too_few two second.0
    (different_lines 2 line_limit (λ n. n) (is_reserved exact two)
    (λ n lt. (omega arith, both_reserved n lt))
    (λ i j _ _ e. e))
