-- If a slot is free, at most fifteen lines are reserved.
use Rattle.std.proofs.Common.{◌≡◌, ℕ, ◌+◌, ◌-◌, ◌<◌, ◌≤◌, true, cond, ⊎_elim, map, get_or, is_some}
use Rattle.std.proofs.Common.{Some, None, Option, nat_lt, refl, sym, ap, subst, ◌∙◌, arith}
use Rattle.std.proofs.lemmas.Bool.{and_parts, both_ways, cases_lt, cond-true, cond-false, lt-ltb}
use Rattle.std.proofs.lemmas.Bool.{le-ltb, ltb-true}
use Rattle.std.proofs.lemmas.Bool.{eqb-true, not-false, false_from_ne_true}
use Rattle.protocol.specs.Limits.{line_limit}
use Rattle.choice.specs.Rule.{choice_of}
use Rattle.book.specs.Lemmas.Counting.{placed_lines}
use Rattle.book.specs.Meaning.{is_reserved, reserved_count}
use Rattle.book.specs.Entries.{entry_stores}
use Rattle.std.specs.Option.{option_or}
use Rattle.condensed.specs.Condensed.{Condensed, IsSound, condensed, empty_slot, slot_entry}
use Rattle.condensed.specs.Condensed.{slot_key, slot_of}
use Rattle.condensed.specs.Condensed.{slot_for, line_entry, entry_from}
use Rattle.condensed.specs.Lemmas.SoundLines.{chosen_slot_is_free, reserved_line_has_slot, line_at}
use Rattle.condensed.specs.Lemmas.SoundLines.{line_entry-in_range}
use Rattle.condensed.specs.FullBook.{NoSlotForASeventeenth}
use Rattle.condensed.specs.Lemmas.Slots.{IsSlotOf, slot_of_law}

-- The numbers without one of them.
abbrev past_one : ℕ → ℕ → ℕ
past_one p j = cond (nat_lt j p) j (j + 1)

among_fifteen : (p i : ℕ) → p < 16 → i < 16 → (i ≡ p → ⊥) → (j : ℕ) × (j < 15) × (past_one p j ≡ i)
among_fifteen p i lt inside apart =
    ⊎_elim (λ below. (i, omega arith, cond-true (nat_lt i p) i (i + 1) (lt-ltb i p below)))
    (λ up. (
      i - 1,
      omega arith,
      cond-false (nat_lt (i - 1) p) (i - 1) (i - 1 + 1) (le-ltb (i - 1) p (omega arith))
          ∙ omega arith,
    ))
    (cases_lt i p)

module _ (s : Condensed) (sound : IsSound s) where
  abbrev stores_in : ℕ → ℕ
  stores_in i = entry_stores (slot_entry (get_or s.slots i empty_slot))

  -- If there is a slot for an unreserved line, no store holds the line in that slot.
  free_place :
      (n : ℕ) (o other : Option ℕ) → IsSlotOf s.slots n o → other ≡ choice_of (map slot_key s.slots)
      → entry_stores (entry_from s.slots s.filter n o) ≡ 0 → is_some (option_or o other) ≡ true
      → (p : ℕ) × (p < 16) × (stores_in p ≡ 0)
  free_place n (Some i) other sp is free has = let sixteen =
      sound.sixteen in (i, omega (arith, sp.0), free)
  free_place n None (Some p) sp is free has =
      let sixteen = sound.sixteen in
      let law = chosen_slot_is_free s.slots p (sym is) in
      (p, omega (arith, law.0), law.1)
  free_place n None None sp is free has = absurd (both_ways _ refl has)

  fifteen : (p : ℕ) → p < 16 → stores_in p ≡ 0 → reserved_count condensed s ≤ 15
  fifteen p lt free =
      placed_lines 15 line_limit (λ j. line_at s sound (past_one p j)) (is_reserved condensed s)
      (λ n inside held.
      let place = reserved_line_has_slot s sound n inside held in
      let j = among_fifteen p place.0 lt place.1 (λ e. held_and_free (stores_in p)
      (subst (λ i. 0 < stores_in i) e place.3) free) in
      (j.0, j.1, ap (line_at s sound) j.2 ∙ place.2))
    where
      held_and_free : (m : ℕ) → 0 < m → m ≡ 0 → ⊥
      held_and_free m some none = omega arith

sixteen_or_fifteen : (n : ℕ) → n ≡ 16 → n ≤ 15 → ⊥
sixteen_or_fifteen n is most = omega arith

pub no_slot_for_a_seventeenth : NoSlotForASeventeenth
no_slot_for_a_seventeenth s sound sixteen n free =
    false_from_ne_true (condensed.has_slot s n) (λ has.
    let parts = and_parts (nat_lt n line_limit) (is_some (slot_for s.slots n)) has in
    let lt : n < line_limit = ltb-true n line_limit parts.0 in
    let none = eqb-true (entry_stores (line_entry s n)) 0 (not-false _ free) in
    let place = free_place s sound n (slot_of s.slots n) (choice_of (map slot_key s.slots))
    (slot_of_law s.slots n) refl
    (ap entry_stores (sym (line_entry-in_range s n lt)) ∙ none) parts.1 in
    sixteen_or_fifteen (reserved_count condensed s) sixteen
    (fifteen s sound place.0 place.1 place.2))
