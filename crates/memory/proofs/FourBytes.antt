-- Writing the four bytes of a value at a line sets that line alone.
use Rattle.std.proofs.Common.{◌≡◌, ℕ, ◌+◌, ◌*◌, ◌/◌, ◌%◌, ◌^◌, ◌<◌, Bool, true, false, eqb, ltb}
use Rattle.std.proofs.Common.{◌≢◌, List, [], ◌∷◌, length, get_or, set, refl, ◌∙◌, add-zero, arith}
use Rattle.std.proofs.Common.{length-set, get_or-set_other, get_or-set_same, drop-set-lt}
use mathlib.Core.Path.{fun_ext}
use native.Mathlib.Nat.{div-div-eq-div-mul}
use Rattle.std.proofs.lemmas.Bool.{eqb-true, eqb-false, eq-eqb, lt-ltb}
use Rattle.memory.specs.Lines.{byte_lines, little_endian, leftover_bytes, lines_with}

-- Four bytes written from a place on.
abbrev pub four_set : List ℕ → ℕ → ℕ → ℕ → ℕ → ℕ → List ℕ
four_set bytes place a b c d =
    set (set (set (set bytes place a) (place + 1) b) (place + 2) c) (place + 3) d

module _ (bytes : List ℕ) (place a b c d : ℕ) where
  four_apart :
      (k : ℕ) → k ≢ place → k ≢ place + 1 → k ≢ place + 2 → k ≢ place + 3
      → get_or (four_set bytes place a b c d) k 0 ≡ get_or bytes k 0
  four_apart k n0 n1 n2 n3 = simp get_or-set_other

  four_number :
      place + 3 < length bytes
      → little_endian (four_set bytes place a b c d) place ≡ a + b * 256 + c * 65536 + d * 16777216
  four_number h = grind (arith, get_or-set_same, get_or-set_other, length-set)

-- A number is the sum of its four bytes.
four_digits :
    (v q1 q2 q3 r0 r1 r2 : ℕ) → v ≡ r0 + q1 * 256 → q1 ≡ r1 + q2 * 256 → q2 ≡ r2 + q3 * 256
    → r0 + r1 * 256 + r2 * 65536 + q3 * 16777216 ≡ v
four_digits v q1 q2 q3 r0 r1 r2 e0 e1 e2 = omega arith

bytes_of :
    (v : ℕ) → v < 2 ^ 32
    → v % 256 + v / 256 % 256 * 256 + v / 65536 % 256 * 65536 + v / 16777216 % 256 * 16777216 ≡ v
bytes_of v h =
    let top : v / 16777216 % 256 ≡ v / 16777216 = omega arith in
    let next : v / 256 ≡ v / 256 % 256 + v / 65536 * 256 =
    omega (arith, div-div-eq-div-mul v 256 256) in
    let third : v / 65536 ≡ v / 65536 % 256 + v / 16777216 * 256 =
    omega (arith, div-div-eq-div-mul v 65536 256) in
    rw top (four_digits v (v / 256) (v / 65536) (v / 16777216) _ _ _ (omega arith) next third)

-- The bytes of a value, written at a line.
abbrev pub line_set : List ℕ → ℕ → ℕ → List ℕ
line_set bytes line v = four_set bytes (4 * line) (v % 256) (v / 256 % 256) (v / 65536 % 256)
    (v / 16777216 % 256)

module _ (bytes : List ℕ) (line value : ℕ) (h : line < length bytes / 4) (v : value < 2 ^ 32) where
  same_line : little_endian (line_set bytes line value) (4 * line) ≡ value
  same_line = four_number bytes (4 * line) _ _ _ _ (omega arith) ∙ bytes_of value v

  apart_line :
      (n k : ℕ) → (n ≡ line → ⊥) → k < 4
      → get_or (line_set bytes line value) (4 * n + k) 0 ≡ get_or bytes (4 * n + k) 0
  apart_line n k ne l =
      four_apart bytes (4 * line) _ _ _ _ (4 * n + k) (omega arith) (omega arith) (omega arith)
      (omega arith)

  at_line :
      (n : ℕ) (t : Bool) → eqb n line ≡ t
      → byte_lines (line_set bytes line value) n ≡ lines_with (byte_lines bytes) line value n
  at_line n true e =
      let same = eqb-true n line e in
      let room : ltb line (length bytes / 4) ≡ true = lt-ltb line (length bytes / 4) h in
      simp (same, eq-eqb line line refl, length-set, room, same_line)
  at_line n false e =
      let apart = eqb-false n line e in
      let e0 = rw add-zero at (apart_line n 0 apart (omega arith)) in
      let e1 = apart_line n 1 apart (omega arith) in
      let e2 = apart_line n 2 apart (omega arith) in
      let e3 = apart_line n 3 apart (omega arith) in
      simp (e, length-set, e0, e1, e2, e3)

  pub line_written :
      (four : List ℕ)
      → four ≡ (value % 256) ∷ (value / 256 % 256) ∷ (value / 65536 % 256)
      ∷ (value / 16777216 % 256) ∷ []
      → byte_lines (four_set bytes (4 * line) (get_or four 0 0) (get_or four 1 0) (get_or four 2 0)
      (get_or four 3 0))
      ≡ lines_with (byte_lines bytes) line value
  line_written four is = rw is (fun_ext (λ n. at_line n (eqb n line) refl))

-- The bytes at the end that are in no line stay.
pub odd_bytes_stay :
    (bytes : List ℕ) (line : ℕ) → line < length bytes / 4 → (a b c d : ℕ)
    → leftover_bytes (four_set bytes (4 * line) a b c d) ≡ leftover_bytes bytes
odd_bytes_stay bytes line h a b c d =
    let l0 : 4 * line < 4 * (length bytes / 4) = omega arith in
    let l1 : 4 * line + 1 < 4 * (length bytes / 4) = omega arith in
    let l2 : 4 * line + 2 < 4 * (length bytes / 4) = omega arith in
    let l3 : 4 * line + 3 < 4 * (length bytes / 4) = omega arith in
    simp (length-set, drop-set-lt)
