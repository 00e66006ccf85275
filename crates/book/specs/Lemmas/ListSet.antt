-- The elements of a list after one is set, and of a list of copies.
use Rattle.std.specs.Prelude.{◌≡◌, ℕ, zero, suc, ◌<◌, List, [], ◌∷◌, length, replicate, ◌≢◌}
use Rattle.std.specs.Prelude.{slice_index_or, slice_set}
use Rattle.std.proofs.Common.{⊎_elim, refl, subst, sym, get_or-set_same, get_or-set_other}
use Rattle.std.proofs.lemmas.Bool.{cases_eq}

-- A fact of the element that is set and of the element that was at a place holds of the element
-- there afterwards.
pub holds_after_set :
    {X : Type 0} (P : X → Type 0) (xs : List X) (i n : ℕ) (x d : X) → P x
    → P (slice_index_or xs n d)
    → P (slice_index_or (slice_set xs i x) n d)
holds_after_set P [] i n x d new old = old
holds_after_set P (y ∷ ys) zero zero x d new old = new
holds_after_set P (y ∷ ys) zero (suc n) x d new old = old
holds_after_set P (y ∷ ys) (suc i) zero x d new old = old
holds_after_set P (y ∷ ys) (suc i) (suc n) x d new old = holds_after_set P ys i n x d new old

-- The same, with the case that the place is the one that is set apart from the other.
pub holds_after_set_by_place :
    {X : Type 0} (P : X → Type 0) (xs : List X) (i n : ℕ) (x d : X) → i < length xs
    → (n ≡ i → P x) → ((n ≢ i) → P (slice_index_or xs n d))
    → P (slice_index_or (slice_set xs i x) n d)
holds_after_set_by_place P xs i n x d room new old =
    ⊎_elim
    (λ e. subst (λ k. P (slice_index_or (slice_set xs i x) k d)) (sym e)
    (subst P (sym (get_or-set_same xs i x d room)) (new e)))
    (λ ne. subst P (sym (get_or-set_other xs i n x d ne)) (old ne))
    (cases_eq n i)

-- Every element of a list of copies is the copied one, and so is the default.
pub slice_index_or-replicate : {X : Type 0} (k n : ℕ) (x : X)
    → slice_index_or (replicate k x) n x ≡ x
slice_index_or-replicate zero n x = refl
slice_index_or-replicate (suc k) zero x = refl
slice_index_or-replicate (suc k) (suc n) x = slice_index_or-replicate k n x
