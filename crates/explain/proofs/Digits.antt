-- A number's digits stand in a row.
use Rattle.std.proofs.Common.{◌≡◌, ℕ, zero, suc, ◌+◌, ◌<◌, ◌/◌, ◌%◌, true, false, cond, List, []}
use Rattle.std.proofs.Common.{◌∷◌, ◌++◌, decimal}
use Rattle.std.proofs.Common.{refl, ap, ◌∙◌, arith, ◌==◌, nat_lt, if◌then◌else◌}
use Rattle.std.specs.Fmt.{digits, digits_onto, digit_glyph}
use Rattle.std.proofs.lemmas.Bool.Decides.{nat_tests}
use Rattle.explain.specs.Notes.{at_start, in_row, in_note, place_after, kept_byte, kept_from}
use Rattle.explain.proofs.Scan.{Keeps}

-- Bytes that are kept at the start of a line, and in a row.
pub record InRow (bytes : List ℕ) : Type 0 where
  pub first : Keeps at_start bytes in_row
  pub further : Keeps in_row bytes in_row

not_feed : (byte : ℕ) → 32 < byte → (byte == 10) ≡ false
not_feed byte above = grind (arith, nat_tests)

not_blank : (byte : ℕ) → 32 < byte → (byte == 32) ≡ false
not_blank byte above = grind (arith, nat_tests)

byte_further : (byte : ℕ) (bytes : List ℕ) → 32 < byte → Keeps in_row bytes in_row
    → Keeps in_row (byte ∷ bytes) in_row
unfolding kept_from
byte_further byte bytes above kept rest =
    ap (λ b. byte ∷ kept_from (cond b at_start in_row) (bytes ++ rest)) (not_feed byte above)
    ∙ ap (λ t. byte ∷ t) (kept rest)

byte_first : (byte : ℕ) (bytes : List ℕ) → 32 < byte → Keeps in_row bytes in_row
    → Keeps at_start (byte ∷ bytes) in_row
unfolding kept_from
byte_first byte bytes above kept rest =
    ap
    (λ b.
    kept_byte (cond b in_note in_row) byte
    ++ kept_from (place_after (cond b in_note in_row) byte) (bytes ++ rest))
    (not_blank byte above)
    ∙ byte_further byte bytes above kept rest

-- A number's last digit, before others.
abbrev last_digit : ℕ → ℕ
last_digit n = digit_glyph false (n % 10)

glyph_above : (d : ℕ) → 32 < digit_glyph false d
glyph_above d =
    elim (nat_lt d 10) as (λ b. 32 < (if b then 48 + d else 87 + d))
    [ true ↦ omega arith | false ↦ omega arith ]

one_digit : (n : ℕ) (bytes : List ℕ) → Keeps in_row bytes in_row → InRow (last_digit n ∷ bytes)
one_digit n bytes kept =
    record {
      first = byte_first (last_digit n) bytes (glyph_above (n % 10)) kept;
      further = byte_further (last_digit n) bytes (glyph_above (n % 10)) kept;
    }

more_digits : (k n : ℕ) (bytes : List ℕ) → InRow bytes → InRow (digits_onto k 10 false n bytes)
more_digits zero n bytes kept = kept
more_digits (suc k) n bytes kept =
    let one : InRow (last_digit n ∷ bytes) = one_digit n bytes kept.further in
    elim (n / 10 == 0) as
    (λ b. InRow (if b then last_digit n
    ∷ bytes else digits_onto k 10 false (n / 10) (last_digit n ∷ bytes)))
    [ true ↦ one | false ↦ more_digits k (n / 10) (last_digit n ∷ bytes) one ]

-- All digits of a number: there is one at least.
pub decimal_kept : (n : ℕ) → InRow (decimal n)
unfolding digits
decimal_kept n =
    let one : InRow (last_digit n ∷ []) = one_digit n [] (λ rest. refl) in
    elim (n / 10 == 0) as
    (λ b. InRow (if b then last_digit n
    ∷ [] else digits_onto 63 10 false (n / 10) (last_digit n ∷ [])))
    [ true ↦ one | false ↦ more_digits 63 (n / 10) (last_digit n ∷ []) one ]
