-- Words for lists of numbers.
use Rattle.std.specs.List.{list_any}
use Rattle.std.specs.Prelude.{ℕ, zero, suc, ◌+◌, Bool, false, cond, List, [], ◌∷◌, ◌++◌, Some, None}
use Rattle.std.specs.Prelude.{fold, Option, ◌==◌}

-- The list contains the number.
abbrev pub contains_number : ℕ → List ℕ → Bool
contains_number n xs = list_any (λ x. x == n) xs

-- The list, with the number added at its end unless the list contains it.
abbrev pub push_new : List ℕ → ℕ → List ℕ
push_new seen n = cond (contains_number n seen) seen (seen ++ n ∷ [])

-- Each number of the list once, in the order in which they first occur.
abbrev pub distinct_numbers : List ℕ → List ℕ
distinct_numbers ns = fold push_new [] ns

-- The last number of the list, if any.
abbrev pub last_of : List ℕ → Option ℕ
last_of ns = fold (λ _ n. Some n) None ns

-- The numbers below a limit, smallest first.
abbrev pub numbers_below : ℕ → List ℕ
numbers_below zero = []
numbers_below (suc n) = numbers_below n ++ n ∷ []

-- How often a number occurs in the list.
abbrev pub occurrences : ℕ → List ℕ → ℕ
occurrences n [] = 0
occurrences n (x ∷ xs) = cond (x == n) 1 0 + occurrences n xs

-- One number is before another: the second occurs after the first occurrence of the first.
abbrev pub is_before : List ℕ → ℕ → ℕ → Bool
is_before [] a b = false
is_before (x ∷ xs) a b = cond (x == a) (contains_number b xs) (is_before xs a b)
