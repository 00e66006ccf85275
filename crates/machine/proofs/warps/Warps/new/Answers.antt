-- All the rows are those of the first stamps.
use Rattle.std.proofs.Common.{map, ap, ◌∙◌, arith}
use Rattle.std.proofs.lemmas.Grind.{common_steps}
use Rattle.rules.specs.State.{idle_row}
use Rattle.machine.proofs.Searches.{take-min}
use Rattle.machine.proofs.warps.Warps.new.Goals as goal

pub returns-clause-warp_rows : goal.returns-clause-warp_rows
returns-clause-warp_rows c =
    c.loop-stamp.invariant.idle
    ∙ ap (map idle_row)
    (take-min c.args.stamps.now c.loop-stamp.stamp-index (grind (arith, common_steps)))
