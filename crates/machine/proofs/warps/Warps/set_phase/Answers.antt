-- The row of a warp without a request may change.
use Rattle.std.proofs.Common.{◌<◌, length, ap, ◌∙◌, rules}
use Rattle.rules.specs.State.{WarpRow, row_in_phase}
use Rattle.machine.proofs.SoundQueue.{row_set}
use Rattle.machine.proofs.WarpRows.{warp_row_here, warp_rows_set}
use Rattle.machine.proofs.warps.Warps.set_phase.Goals as goal

pub invariant_of-self : goal.invariant_of-self
invariant_of-self c =
    let set = row_set c.args.self.now c.args.warp c.set_phase.new.self c.requires.none in
    record { count = set.0; sound = set.1 }

pub returns-in-Some-clause-warp_rows : goal.returns-in-Some-clause-warp_rows
returns-in-Some-clause-warp_rows c =
    let rows = c.args.self.now.rows.items in
    let low : c.args.warp < length rows = search rules in
    let here = warp_row_here rows c.args.warp c.in-Some.row.now low c.in-Some.ensures.value in
    warp_rows_set rows c.args.warp c.set_phase.new.self _
    (c.set_phase.ensures ∙ ap (λ (l : WarpRow). row_in_phase l c.args.phase) here)
