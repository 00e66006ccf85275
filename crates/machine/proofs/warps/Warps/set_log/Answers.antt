-- The row of a warp that does not wait may change: it has no request.
use Rattle.std.proofs.Common.{◌<◌, length, ap, ◌∙◌, rules}
use Rattle.rules.specs.State.{WarpRow}
use Rattle.machine.proofs.SoundQueue.{free, row_set}
use Rattle.machine.proofs.WarpRows.{warp_row_here, warp_rows_set}
use Rattle.machine.proofs.warps.Warps.set_log.Goals as goal

pub invariant_of-self : goal.invariant_of-self
invariant_of-self c =
    let t = c.args.self.now in
    let set = row_set t c.args.warp c.set_log.new.self (free t c.args.warp c.requires) in
    record { count = set.0; sound = set.1 }

pub returns-in-Some-clause-warp_rows : goal.returns-in-Some-clause-warp_rows
returns-in-Some-clause-warp_rows c =
    let rows = c.args.self.now.rows.items in
    let low : c.args.warp < length rows = search rules in
    let here = warp_row_here rows c.args.warp c.in-Some.row.now low c.in-Some.ensures.value in
    warp_rows_set rows c.args.warp c.set_log.new.self _
    (c.set_log.ensures ∙ ap (λ (l : WarpRow). record l { log = c.args.log }) here)
