-- What is read of a part of a list is what is read of the list, at the place where the part begins.
use Rattle.std.proofs.Common.{◌≡◌, ℕ, zero, suc, ◌+◌, ◌*◌, ◌<◌, ◌≤◌, List, ◌∷◌, get_or, take, drop}
use Rattle.std.proofs.Common.{refl, ap, ◌∙◌, ap₂, add-zero, zero-add, add_assoc, arith, get_or-take}
use Rattle.std.proofs.Common.{get_or-drop}
use Rattle.std.specs.Option.{option_map}
use Rattle.protocol.specs.Calls.{op_named}
use Rattle.protocol.specs.declared.call.Call.{Call}
use Rattle.protocol.specs.declared.call.Op.{Op}
use Rattle.std.specs.Prelude.{Option}
use Rattle.calls.specs.Format.{two_bytes, four_bytes, numbers, row_call}

-- So many bytes from a place in one list on are those from a place in another on.
pub record SameBytes (xs ys : List ℕ) (p q n : ℕ) : Type 0 where
  pub at : (k : ℕ) → k < n → get_or xs (p + k) 0 ≡ get_or ys (q + k) 0

pub same_in_take : (xs : List ℕ) (m p n : ℕ) → p + n ≤ m → SameBytes (take m xs) xs p p n
same_in_take xs m p n h = record { at = λ k below. get_or-take m xs (p + k) 0 (omega arith) }

pub same_in_part : (xs : List ℕ) (start m n : ℕ) → n ≤ m
    → SameBytes (take m (drop start xs)) xs 0 start n
same_in_part xs start m n h =
    record {
      at = λ k below.
          simp zero-add
          (get_or-take m (drop start xs) k 0 (omega arith) ∙ get_or-drop start xs k 0);
    }

pub same_in_rest : (xs : List ℕ) (start n : ℕ) → SameBytes (drop start xs) xs 0 start n
same_in_rest xs start n = record { at = λ k below. simp zero-add (get_or-drop start xs k 0) }

made_by : ℕ → Option Op → Option Call
made_by warp op = option_map (λ o. record { warp = warp; op = o }) op

module _ {xs ys : List ℕ} where
  pub same_first : (p q n : ℕ) → SameBytes xs ys p q n → 0 < n → get_or xs p 0 ≡ get_or ys q 0
  same_first p q n same h = simp add-zero at (same.at 0 h)

  pub same_further : (p q n j m : ℕ) → SameBytes xs ys p q n → j + m ≤ n
      → SameBytes xs ys (p + j) (q + j) m
  same_further p q n j m same h =
      record { at = λ k below. simp add_assoc (same.at (j + k) (omega arith)) }

  pub same_two : (p q n : ℕ) → SameBytes xs ys p q n → 2 ≤ n → two_bytes xs p ≡ two_bytes ys q
  same_two p q n same h =
      ap₂ (λ a b. a * 256 + b) (same_first p q n same (omega arith)) (same.at 1 (omega arith))

  pub same_four : (p q n : ℕ) → SameBytes xs ys p q n → 4 ≤ n → four_bytes xs p ≡ four_bytes ys q
  same_four p q n same h =
      let a = same_first p q n same (omega arith) in
      let b = same.at 1 (omega arith) in
      let c = same.at 2 (omega arith) in
      let d = same.at 3 (omega arith) in
      cc

  pub same_numbers :
      (count p q n : ℕ) → SameBytes xs ys p q n → 4 * count ≤ n
      → numbers xs p count ≡ numbers ys q count
  same_numbers zero p q n same h = refl
  same_numbers (suc count) p q n same h =
      let further = same_further p q n 4 (4 * count) same (omega arith) in
      ap₂ ◌∷◌ (same_four p q n same (omega arith))
      (same_numbers count (p + 4) (q + 4) (4 * count) further (omega arith))

  pub same_call : (p q n : ℕ) → SameBytes xs ys p q n → 8 ≤ n → row_call xs p ≡ row_call ys q
  unfolding made_by
  same_call p q n same h =
      let letter = same_first p q n same (omega arith) in
      let line = same_two (p + 2) (q + 2) 2 (same_further p q n 2 2 same (omega arith))
      (omega arith) in
      let value = same_four (p + 4) (q + 4) 4 (same_further p q n 4 4 same (omega arith))
      (omega arith) in
      let op = ap₂ (λ a l. op_named a l (four_bytes xs (p + 4))) letter line
      ∙ ap (op_named (get_or ys q 0) (two_bytes ys (q + 2))) value in
      ap₂ made_by (same.at 1 (omega arith)) op
