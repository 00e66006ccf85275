-- The slot that a line is in, and what the change of one slot keeps.
use Rattle.std.specs.Prelude.{◌≡◌, ℕ, zero, suc, ◌<◌, Bool, true, false, cond, List, [], ◌∷◌}
use Rattle.std.specs.Prelude.{length, get_or, Some, None, Option, slice_index_or, slice_set, nat_lt}
use Rattle.std.specs.Prelude.{refl}
use Rattle.std.proofs.Common.{⊎_elim, sym, ap, subst, ◌∙◌, arith, length-set}
use Rattle.std.proofs.lemmas.Bool.{cond-true, eqb-true, eq-eqb, lt-ltb, ltb-true, ltb-false}
use Rattle.std.proofs.lemmas.Bool.{cases_lt, both_ways}
use Rattle.std.specs.List.{position_or_len}
use Rattle.std.proofs.lemmas.List.Sums.{passes_at_first, fails_before_first, position_or_len_is}
use Rattle.std.proofs.lemmas.List.Folds.{position_or_len-set}
use Rattle.std.proofs.lemmas.List.{get_or_past}
use Rattle.condensed.specs.Condensed.{empty_slot, is_line, same_line, slot_line, slot_holds}
use Rattle.condensed.specs.Condensed.{slot_of, HoldDistinctLines}
use Rattle.condensed.specs.declared.slot.Slot.{Slot}

pub is_line_is_some : (o : Option ℕ) (n : ℕ) → is_line o n ≡ true → o ≡ Some n
is_line_is_some None n h = absurd (both_ways false refl h)
is_line_is_some (Some m) n h = ap Some (eqb-true m n h)

pub same_from : (a b : Option ℕ) (n : ℕ) → is_line a n ≡ true → is_line b n ≡ true
    → same_line a b ≡ true
same_from None b n h k = absurd (both_ways false refl h)
same_from (Some m) b n h k = subst (λ x. is_line b x ≡ true) (sym (eqb-true m n h)) k

pub same_back : (a : Option ℕ) (n : ℕ) → same_line a (Some n) ≡ true → is_line a n ≡ true
same_back None n h = absurd (both_ways false refl h)
same_back (Some m) n h = eq-eqb m n (sym (eqb-true n m h))

-- A line is in a slot that holds it, or no slot holds it.
abbrev pub IsSlotOf : List Slot → ℕ → Option ℕ → Type 0
IsSlotOf slots n None = (k : ℕ) → slot_holds (slice_index_or slots k empty_slot) n ≡ false
IsSlotOf slots n (Some i) = (i < length slots)
    × (slot_holds (slice_index_or slots i empty_slot) n ≡ true)

pub slot_of_law : (slots : List Slot) (n : ℕ) → IsSlotOf slots n (slot_of slots n)
unfolding slot_of
slot_of_law slots n = by (nat_lt (position_or_len test slots) (length slots)) refl
  where
    test : Slot → Bool
    test slot = slot_holds slot n

    by :
        (b : Bool) → nat_lt (position_or_len test slots) (length slots) ≡ b
        → IsSlotOf slots n (cond b (Some (position_or_len test slots)) None)
    by true e =
        let lt = ltb-true (position_or_len test slots) (length slots) e in
        (lt, passes_at_first test slots empty_slot lt)
    by false e =
        let past = ltb-false (position_or_len test slots) (length slots) e in λ k.
        ⊎_elim (λ lt. fails_before_first test slots k empty_slot (omega arith))
        (λ out. ap test (get_or_past slots k empty_slot out))
        (cases_lt k (length slots))

-- A line is in the first of the slots that hold it.
pub first_found :
    (slots : List Slot) (n i : ℕ) → i < length slots
    → slot_holds (slice_index_or slots i empty_slot) n ≡ true
    → ((k : ℕ) → k < i → slot_holds (slice_index_or slots k empty_slot) n ≡ false)
    → slot_of slots n ≡ Some i
unfolding slot_of
first_found slots n i lt h before =
    let test : Slot → Bool = λ slot. slot_holds slot n in
    let is = position_or_len_is test slots i empty_slot (omega arith) before (λ _. h) in
    cond-true (nat_lt (position_or_len test slots) (length slots))
    (Some (position_or_len test slots)) None
    (lt-ltb (position_or_len test slots) (length slots) (omega arith)) ∙ ap Some is

pub slot_of-none :
    (slots : List Slot) (n : ℕ)
    → ((k : ℕ) → k < length slots → slot_holds (slice_index_or slots k empty_slot) n ≡ false)
    → slot_of slots n ≡ None
slot_of-none slots n h = by (slot_of slots n) (slot_of_law slots n)
  where
    by : (o : Option ℕ) → IsSlotOf slots n o → o ≡ None
    by None s = refl
    by (Some i) s =
        absurd (both_ways (slot_holds (slice_index_or slots i empty_slot) n) (h i s.0) s.1)

-- If no line is in two slots, a line is in the slot that holds it.
pub slot_of-held :
    (slots : List Slot) → HoldDistinctLines slots → (n i : ℕ)
    → slot_holds (slice_index_or slots i empty_slot) n ≡ true
    → slot_of slots n ≡ Some i
slot_of-held slots apart n i h = by (slot_of slots n) (slot_of_law slots n)
  where
    by : (o : Option ℕ) → IsSlotOf slots n o → o ≡ Some i
    by None s = absurd (both_ways (slot_holds (slice_index_or slots i empty_slot) n) (s i) h)
    by (Some j) s =
        ap Some
        (apart j i (same_from (slot_line (get_or slots j empty_slot))
        (slot_line (get_or slots i empty_slot)) n s.1 h))

-- A slot that keeps its line leaves every line where it was.
pub slot_of-same_line :
    (slots : List Slot) (i : ℕ) (x : Slot) → slot_line x ≡ slot_line (get_or slots i empty_slot)
    → (n : ℕ)
    → slot_of (slice_set slots i x) n ≡ slot_of slots n
unfolding slot_of
slot_of-same_line slots i x e n =
    let same = position_or_len-set (λ slot. slot_holds slot n) slots i x empty_slot
    (ap (λ l. is_line l n) e) in
    let long = length-set slots i x in
    simp (same, long)

pub slot_line-set :
    (slots : List Slot) (i : ℕ) (x : Slot) → slot_line x ≡ slot_line (get_or slots i empty_slot)
    → (k : ℕ) → (slot_line (get_or (slice_set slots i x) k empty_slot)) ≡
    (slot_line (get_or slots k empty_slot))
slot_line-set [] i x e k = refl
slot_line-set (y ∷ ys) zero x e zero = e
slot_line-set (y ∷ ys) zero x e (suc k) = refl
slot_line-set (y ∷ ys) (suc i) x e zero = refl
slot_line-set (y ∷ ys) (suc i) x e (suc k) = slot_line-set ys i x e k
