-- A slot is free exactly if one is chosen.
use Rattle.std.proofs.Common.{◌≡◌, ℕ, ◌+◌, Bool, true, false, cond, ◌||◌, List, [], ◌∷◌, map}
use Rattle.std.proofs.Common.{is_some, nat_le, Some, None, Option, refl, sym, ap, ◌∙◌}
use Rattle.std.specs.Option.{option_map}
use Rattle.choice.specs.Rule.{better_of, best_from}
use Rattle.condensed.specs.Condensed.{any_free, slot_key, slot_or_choice}
use Rattle.condensed.specs.declared.slot.Slot.{Slot}

or_false : (a : Bool) → a ≡ (a || false)
or_false true = refl
or_false false = refl

or_again : (a b c : Bool) → ((a || b) || c) ≡ (a || (b || c))
or_again true b c = refl
or_again false b c = refl

mapped : {A B : Type 0} (f : A → B) (o : Option A) → is_some (option_map f o) ≡ is_some o
mapped f None = refl
mapped f (Some x) = refl

better_there : (best : Option (ℕ × ℕ)) (place : ℕ) (key : Option ℕ)
    → is_some (better_of best place key) ≡ (is_some best || is_some key)
better_there best place None = or_false (is_some best)
better_there None place (Some key) = refl
better_there (Some best) place (Some key) = by (nat_le best.1 key)
  where
    by : (b : Bool) → is_some (cond b (Some best) (Some (place, key))) ≡ true
    by true = refl
    by false = refl

best_there : (place : ℕ) (best : Option (ℕ × ℕ)) (slots : List Slot)
    → is_some (best_from place best (map slot_key slots)) ≡ (is_some best || any_free slots)
best_there place best [] = or_false (is_some best)
best_there place best (slot ∷ slots) =
    best_there (place + 1) (better_of best place (slot_key slot)) slots
    ∙ ap (λ b. b || any_free slots) (better_there best place (slot_key slot))
    ∙ or_again (is_some best) (is_some (slot_key slot)) (any_free slots)

pub free_slot_is_chosen : (slots : List Slot) (inside : Option ℕ)
    → (is_some inside || any_free slots) ≡ is_some (slot_or_choice slots inside)
free_slot_is_chosen slots None =
    sym (mapped (λ best. best.0) (best_from 0 None (map slot_key slots)) ∙ best_there 0 None slots)
free_slot_is_chosen slots (Some place) = refl

-- The same of a line that is in no slot.
pub free_slot_is_chosen_outside : {A : Type 0} (f : A → ℕ) (inside : Option A) (slots : List Slot)
    → is_some inside ≡ false → any_free slots ≡ is_some (slot_or_choice slots (option_map f inside))
free_slot_is_chosen_outside f None slots e = free_slot_is_chosen slots None
free_slot_is_chosen_outside f (Some x) slots e = cc
