-- The numbers of some bytes by fours, and the stamps by their places.
use Rattle.std.proofs.Common.{◌≡◌, ℕ, zero, suc, ◌+◌, ◌-◌, ◌*◌, ◌/◌, ◌≤◌, List, [], ◌∷◌, length}
use Rattle.std.proofs.Common.{take, drop, map, refl, sym, ap, ◌∙◌, ap₂, ⊎_elim, arith, length-take}
use Rattle.std.proofs.Common.{length-drop}
use Rattle.std.specs.Prelude.{nat_lt}
use Rattle.std.specs.Simd.{first_chunks}
use Rattle.std.specs.List.{position, position_from}
use Rattle.std.specs.Option.{option_map}
use Rattle.std.proofs.lemmas.Iterator.Adapters.{position_from-zero}
use Rattle.std.proofs.lemmas.Bool.{cases_lt, le-leb, lt-leb, lt-ltb, le-ltb}
use Rattle.protocol.specs.Limits.{last_stamp}
use Rattle.calls.specs.Format.{numbers, four_bytes, late_stamp_place}
use Rattle.calls.proofs.SameBytes.{same_in_take, same_in_part, same_in_rest, same_four}
use Rattle.calls.proofs.SameBytes.{same_numbers}

pub numbers_length : (bytes : List ℕ) (place n : ℕ) → length (numbers bytes place n) ≡ n
numbers_length bytes place zero = refl
numbers_length bytes place (suc n) = ap suc (numbers_length bytes (place + 4) n)

pub numbers_by_fours :
    (n : ℕ) (bytes : List ℕ)
    → map (λ four. four_bytes four 0) (first_chunks 4 n bytes) ≡ numbers bytes 0 n
numbers_by_fours zero bytes = refl
numbers_by_fours (suc n) bytes =
    ap₂ ◌∷◌ (same_four 0 0 4 (same_in_take bytes 4 0 4 (omega arith)) (omega arith))
    (numbers_by_fours n (drop 4 bytes) ∙ same_numbers n 0 4 (4 * n) (same_in_rest bytes 4 (4 * n))
    (omega arith))

-- The numbers of the part of a file where so many stand are the file's.
pub numbers_of_part :
    (bytes : List ℕ) (start stop count : ℕ) → stop ≡ start + 4 * count → stop ≤ length bytes
    → numbers (take (stop - start) (drop start bytes)) 0
    (length (take (stop - start) (drop start bytes)) / 4)
    ≡ numbers bytes start count
numbers_of_part bytes start stop count e h =
    let long : length (take (stop - start) (drop start bytes)) ≡ 4 * count =
    length-take (stop - start) (drop start bytes) ∙ omega (arith, length-drop start bytes) in
    let many : length (take (stop - start) (drop start bytes)) / 4 ≡ count = omega arith in
    ap (numbers (take (stop - start) (drop start bytes)) 0) many
    ∙ same_numbers count 0 start (4 * count)
    (same_in_part bytes start (stop - start) (4 * count) (omega arith))
    (omega arith)

late_from :
    (place i : ℕ) (stamps : List ℕ)
    → late_stamp_place (place + 4 * i) stamps
    ≡ option_map (λ k. place + 4 * k) (position_from (λ stamp. nat_lt last_stamp stamp) i stamps)
late_from place i [] = refl
late_from place i (stamp ∷ stamps) =
    let e : place + 4 * i + 4 ≡ place + 4 * (i + 1) = omega arith in
    ⊎_elim
    (λ late. simp (lt-leb stamp last_stamp late, lt-ltb last_stamp stamp late))
    (λ early.
    simp (le-leb stamp last_stamp early, le-ltb last_stamp stamp early)
    (ap (λ p. late_stamp_place p stamps) e ∙ late_from place (i + 1) stamps))
    (cases_lt last_stamp stamp)

-- The first stamp that is late is at four times its number.
pub late_by_number :
    (place : ℕ) (stamps : List ℕ)
    → late_stamp_place place stamps
    ≡ option_map (λ k. place + 4 * k) (position (λ stamp. nat_lt last_stamp stamp) stamps)
late_by_number place stamps =
    let e : place ≡ place + 4 * 0 = omega arith in
    ap (λ p. late_stamp_place p stamps) e ∙ late_from place 0 stamps
    ∙ ap (option_map (λ k. place + 4 * k))
    (sym (position_from-zero (λ stamp. nat_lt last_stamp stamp) stamps))
