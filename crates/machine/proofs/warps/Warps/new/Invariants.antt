-- The rows so far are idle at their stamps.
use Rattle.std.proofs.Common.{◌≡◌, map, length, take}
use Rattle.rules.specs.State.{idle_row}
use Rattle.machine.specs.Rows.{warp_row_in}
use Rattle.machine.proofs.warps.Warps.new.Given as goal

abbrev pub invariant-loop-stamp : goal.invariant-loop-stamp
invariant-loop-stamp l = record {
  idle : map warp_row_in l.rows.items ≡ map idle_row (take l.stamp-index l.stamps);
  count : length l.rows.items ≡ l.stamp-index;
}
