-- A line's indices, bit by bit, and that each is within its way.
use Rattle.std.specs.Prelude.{◌≡◌, ℕ, ◌+◌, ◌/◌, ◌%◌, ◌^◌, ◌<◌, ◌≤◌, Bool, true, false, cond, List}
use Rattle.std.specs.Prelude.{[], ◌∷◌, length, drop, ◌==◌, bit_xor, nat_lt, slice_index, refl}
use Rattle.std.proofs.Common.{sym, ap, ◌∙◌, arith}
use Rattle.std.specs.Int.Bits.{xor_zero_r, xor_assoc}
use Rattle.std.proofs.lemmas.Nat.{xor_lt, shr-shr}
use Rattle.std.proofs.lemmas.List.{drop_more, drop_all}
use Rattle.std.proofs.lemmas.Bool.{cond_both, ltb-true, and_parts}
use Rattle.condensed.specs.Filter.{index_by, all_below_64, indices_of, AreInside, way_0, way_1}
use Rattle.condensed.specs.Filter.{way_2, way_3}

-- One bit further: its number counts if the bit is set.
pub index_more :
    (numbers : List ℕ) (i number index bits next : ℕ) → i < length numbers
    → number ≡ slice_index numbers i
    → next ≡ cond (bits % 2 == 1) (bit_xor index number) index
    → bit_xor next (index_by (drop (i + 1) numbers) (bits / 2)) ≡ bit_xor index
    (index_by (drop i numbers) bits)
unfolding index_by
index_more numbers i number index bits next lt is step =
    let rest : ℕ = index_by (drop (i + 1) numbers) (bits / 2) in
    let add : ℕ = cond (bits % 2 == 1) number 0 in
    let opened : index_by (drop i numbers) bits ≡ bit_xor add rest =
    ap (λ xs. index_by xs bits) (drop_more numbers i 0 lt)
    ∙ ap (λ x. bit_xor (cond (bits % 2 == 1) x 0) rest) (sym is) in
    let taken : next ≡ bit_xor index add = step ∙ by (bits % 2 == 1) in
    ap (λ x. bit_xor x rest) taken ∙ xor_assoc index add rest ∙ ap (bit_xor index) (sym opened)
  where
    by : (b : Bool) → cond b (bit_xor index number) index ≡ bit_xor index (cond b number 0)
    by true = refl
    by false = sym (xor_zero_r index)

-- The same for the rest of the bits of the line's number.
pub index_next :
    (numbers : List ℕ) (i number index line next : ℕ) → i < length numbers
    → number ≡ slice_index numbers i
    → next ≡ cond (line / 2 ^ i % 2 == 1) (bit_xor index number) index
    → bit_xor next (index_by (drop (i + 1) numbers) (line / 2 ^ (i + 1)))
    ≡ bit_xor index (index_by (drop i numbers) (line / 2 ^ i))
index_next numbers i number index line next lt is step =
    ap (λ bits. bit_xor next (index_by (drop (i + 1) numbers) bits)) (sym (shr-shr line i 1))
    ∙ index_more numbers i number index (line / 2 ^ i) next lt is step

pub index_none : (numbers : List ℕ) (i index bits : ℕ) → length numbers ≤ i
    → bit_xor index (index_by (drop i numbers) bits) ≡ index
unfolding index_by
index_none numbers i index bits past =
    ap (λ xs. bit_xor index (index_by xs bits)) (drop_all i numbers past)
    ∙ xor_zero_r index

-- Numbers within a way leave an index within it.
pub index_below : (numbers : List ℕ) → all_below_64 numbers ≡ true → (line : ℕ)
    → index_by numbers line < 64
unfolding index_by
index_below [] ok line = omega arith
index_below (x ∷ xs) ok line =
    let parts = and_parts (nat_lt x 64) (all_below_64 xs) ok in
    xor_lt 6 (cond (line % 2 == 1) x 0) (index_by xs (line / 2))
    (cond_both (line % 2 == 1) x 0 (λ y. y < 64) (λ _. ltb-true x 64 parts.0) (λ _. omega arith))
    (index_below xs parts.1 (line / 2))

pub indices_inside : (line : ℕ) → AreInside (indices_of line)
indices_inside line =
    record {
      in_0 = index_below way_0 refl line;
      in_1 = index_below way_1 refl line;
      in_2 = index_below way_2 refl line;
      in_3 = index_below way_3 refl line;
    }

pub line_five : indices_of 5 ≡ 5 ∷ 51 ∷ 16 ∷ 16 ∷ []
unfolding index_by
line_five = refl
