-- The row of a warp that does not wait may change: it has no request.
use Rattle.machine.proofs.SoundQueue.{free, row_set}
use Rattle.machine.proofs.WarpRows.{warp_rows_set}
use Rattle.machine.proofs.warps.Warps.reset.Goals as goal

pub invariant_of-self : goal.invariant_of-self
invariant_of-self c =
    let t = c.args.self.now in
    let set = row_set t c.args.warp c.reset.new.self (free t c.args.warp c.requires.free) in
    record { count = set.0; sound = set.1 }

pub returns-in-Some-clause-warp_rows : goal.returns-in-Some-clause-warp_rows
returns-in-Some-clause-warp_rows c =
    warp_rows_set c.args.self.now.rows.items c.args.warp c.reset.new.self _ c.reset.ensures
