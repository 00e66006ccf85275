-- Where the sizes are right and the file is long enough, each part that is read is the one that the
-- format says.
use Rattle.std.proofs.Common.{◌≡◌, ℕ, ◌+◌, ◌-◌, ◌*◌, ◌/◌, ◌≤◌, List, length, take, drop, is_some}
use Rattle.std.proofs.Common.{Option, refl, sym, ap, ◌∙◌, ap₂, arith}
use Rattle.std.specs.Prelude.{nat_lt}
use Rattle.std.specs.List.{position}
use Rattle.std.specs.Option.{option_map}
use Rattle.std.proofs.lemmas.Bool.{le-leb}
use Rattle.std.proofs.lemmas.Bool.Decides.{nat_tests}
use Rattle.protocol.specs.Faults.{fault_in_file}
use Rattle.protocol.specs.Limits.{last_stamp}
use Rattle.protocol.specs.declared.fault.Refusal.TheVariants.{BadStamp}
use Rattle.calls.specs.Format.{header_fault, numbers, first_stamps, first_values, rows_place}
use Rattle.calls.specs.Headers.{HasShape}
use Rattle.calls.specs.declared.header.Shape.{Shape}
use Rattle.calls.proofs.HeaderChecks.{long_enough}
use Rattle.calls.proofs.NumberSteps.{numbers_of_part, numbers_length, late_by_number}

-- The numbers that are read of the part of a file between two places.
abbrev pub part_numbers : List ℕ → ℕ → ℕ → List ℕ
part_numbers bytes start stop =
    numbers (take (stop - start) (drop start bytes)) 0
    (length (take (stop - start) (drop start bytes)) / 4)

module _ (bytes : List ℕ) (shape : Shape) (shaped : HasShape bytes shape) where
  abbrev values_at : ℕ
  values_at = 9 + 4 * shape.warps

  abbrev rows_at : ℕ
  rows_at = 9 + 4 * shape.warps + 4 * shape.lines

  pub few_warps : shape.warps ≤ 32
  few_warps = let size = shaped.size in let w = shaped.warps in grind (arith, nat_tests)

  pub few_lines : shape.lines ≤ 4096
  few_lines = let size = shaped.size in let l = shaped.lines in grind (arith, nat_tests)

  pub place_is : 9 + 4 * shape.warps + 4 * shape.lines ≡ rows_place bytes
  place_is = ap₂ (λ w l. 9 + 4 * w + 4 * l) shaped.warps shaped.lines

  module _ (long : 9 + 4 * shape.warps + 4 * shape.lines ≤ length bytes) (items : List ℕ) where
    module _ (read : items ≡ part_numbers bytes 9 (9 + 4 * shape.warps)) where
      these_stamps : items ≡ numbers bytes 9 shape.warps
      these_stamps = read ∙ numbers_of_part bytes 9 values_at shape.warps refl (omega arith)

      pub stamps_are : items ≡ first_stamps bytes
      stamps_are = these_stamps ∙ ap (numbers bytes 9) shaped.warps

      pub stamps_many : length items ≤ 32
      stamps_many = let f =
          few_warps in omega (arith, ap length these_stamps ∙ numbers_length bytes 9 shape.warps)

      -- The last check of the header, where all before it pass.
      pub stamps_checked :
          (late : Option ℕ) → late ≡ position (λ stamp. nat_lt last_stamp stamp) items
          → header_fault bytes ≡ option_map (fault_in_file BadStamp)
          (option_map (λ k. 9 + 4 * k) late)
      stamps_checked late e =
          long_enough bytes shaped.marks shaped.version (ap is_some shaped.book) shaped.size
          (le-leb (rows_place bytes) (length bytes) (rw (← place_is) long))
          ∙ ap (option_map (fault_in_file BadStamp))
          (late_by_number 9 (first_stamps bytes)
          ∙ ap (option_map (λ k. 9 + 4 * k))
          (ap (position (λ stamp. nat_lt last_stamp stamp)) (sym stamps_are) ∙ sym e))

    module _ (read : items ≡ part_numbers bytes (9 + 4 * shape.warps)
        (9 + 4 * shape.warps + 4 * shape.lines)) where
      these_values : items ≡ numbers bytes (9 + 4 * shape.warps) shape.lines
      these_values = read ∙ numbers_of_part bytes values_at rows_at shape.lines refl long

      pub values_are : items ≡ first_values bytes
      values_are = these_values ∙ ap₂ (λ w l. numbers bytes (9 + 4 * w) l) shaped.warps shaped.lines

      pub values_many : length items ≤ 4096
      values_many =
          let f = few_lines
          in omega (arith, ap length these_values ∙ numbers_length bytes values_at shape.lines)
