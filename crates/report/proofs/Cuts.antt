-- A text's first row ends where its first line feed stands, and the other rows are those of what
-- follows.
use Rattle.std.proofs.Common.{◌≡◌, ℕ, ◌+◌, ◌<◌, min, Bool, true, false, cond, eqb, ltb}
use Rattle.std.proofs.Common.{List, [], ◌∷◌, length, take, drop, length-drop, Some, None, refl}
use Rattle.std.proofs.Common.{add-one, arith}
use Rattle.std.proofs.lemmas.Bool.Decides.{nat_tests}
use Rattle.std.specs.List.{position, position_or_len}
use Rattle.report.specs.Rows.{rows_of, row_size, with_byte}

counts_at :
    (b : Bool) (byte : ℕ) (rest : List ℕ) → eqb byte 10 ≡ b
    → row_size rest ≡ min (position_or_len (λ c. eqb c 10) rest + 1) (length rest)
    → row_size (byte ∷ rest) ≡ min (position_or_len (λ c. eqb c 10) (byte ∷ rest) + 1)
    (length (byte ∷ rest))
counts_at true byte rest e ih = simp e (omega arith)
counts_at false byte rest e ih = simp e (omega (arith, ih))

pub row_size_counts :
    (text : List ℕ)
    → row_size text ≡ min (position_or_len (λ byte. eqb byte 10) text + 1) (length text)
row_size_counts [] = refl
row_size_counts (byte ∷ rest) = counts_at (eqb byte 10) byte rest refl (row_size_counts rest)

pub sized_some :
    (text : List ℕ) (place : ℕ) → position (λ byte. eqb byte 10) text ≡ Some place
    → row_size text ≡ place + 1
sized_some text place e =
    by_test (ltb (position_or_len (λ byte. eqb byte 10) text) (length text)) refl
    (row_size_counts text) e
  where
    by_test :
        (b : Bool) → ltb (position_or_len (λ byte. eqb byte 10) text) (length text) ≡ b
        → row_size text ≡ min (position_or_len (λ byte. eqb byte 10) text + 1) (length text)
        → cond b (Some (position_or_len (λ byte. eqb byte 10) text)) None ≡ Some place
        → row_size text ≡ place + 1
    by_test true t r h = let same : position_or_len (λ byte. eqb byte 10) text ≡ place =
        cc in grind (arith, nat_tests)
    by_test false t r h = cc

pub sized_none :
    (text : List ℕ) → position (λ byte. eqb byte 10) text ≡ None → row_size text ≡ length text
sized_none text e =
    by_test (ltb (position_or_len (λ byte. eqb byte 10) text) (length text)) refl
    (row_size_counts text) e
  where
    by_test :
        (b : Bool) → ltb (position_or_len (λ byte. eqb byte 10) text) (length text) ≡ b
        → row_size text ≡ min (position_or_len (λ byte. eqb byte 10) text + 1) (length text)
        → cond b (Some (position_or_len (λ byte. eqb byte 10) text)) None ≡ None
        → row_size text ≡ length text
    by_test true t r h = cc
    by_test false t r h = grind (arith, nat_tests)

with_byte-cut :
    (byte n : ℕ) (text : List ℕ) → rows_of text ≡ take n text ∷ rows_of (drop n text)
    → with_byte byte (rows_of text) ≡ take (n + 1) (byte ∷ text)
    ∷ rows_of (drop (n + 1) (byte ∷ text))
with_byte-cut byte n text h = rw (h, add-one) refl

cut_at :
    (b : Bool) (byte : ℕ) (rest : List ℕ) → eqb byte 10 ≡ b
    → (0 < length rest
    → rows_of rest ≡ take (row_size rest) rest ∷ rows_of (drop (row_size rest) rest))
    → rows_of (byte ∷ rest)
    ≡ take (row_size (byte ∷ rest)) (byte ∷ rest)
    ∷ rows_of (drop (row_size (byte ∷ rest)) (byte ∷ rest))
cut_at true byte rest e ih = simp e
cut_at false byte [] e ih = simp e
cut_at false byte (next ∷ rest) e ih =
    simp e (with_byte-cut byte (row_size (next ∷ rest)) (next ∷ rest) (ih (omega arith)))

pub first_cut :
    (text : List ℕ) → 0 < length text
    → rows_of text ≡ take (row_size text) text ∷ rows_of (drop (row_size text) text)
first_cut [] h = absurd (omega arith)
first_cut (byte ∷ rest) h = cut_at (eqb byte 10) byte rest refl (first_cut rest)

pub some_cut : (text : List ℕ) → 0 < length text → 0 < row_size text
some_cut text h = omega (arith, row_size_counts text)

module _ (text first rest : List ℕ) (size : ℕ) (some : 0 < length text)
    (ends : size ≡ row_size text) where
  pub split_rows : first ≡ take size text → rest ≡ drop size text
      → rows_of text ≡ first ∷ rows_of rest
  split_rows e f = rw (e, f, ends) (first_cut text some)

  pub split_shorter : rest ≡ drop size text → length rest < length text
  split_shorter f = rw f (simp length-drop (omega (arith, some_cut text some)))
