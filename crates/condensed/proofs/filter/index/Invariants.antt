-- The index so far and the rest of the numbers give the line's index.
use Rattle.std.proofs.Common.{◌≡◌, ◌/◌, ◌^◌, drop}
use lib.Bits.{bit_xor}
use Rattle.condensed.specs.Filter.{index_by}
use Rattle.condensed.proofs.filter.index.Given as goal

abbrev pub invariant-loop-bit : goal.invariant-loop-bit
invariant-loop-bit l =
    bit_xor l.index (index_by (drop l.bit l.numbers) (l.line / 2 ^ l.bit))
    ≡ index_by l.numbers l.line
