-- An open warp has no request, and its stamp is not past the end of the clock.
use Rattle.machine.proofs.SoundQueue.{free, open_row}
use Rattle.machine.proofs.warps.Warps.settle.Goals as goal

pub set_phase-requires-clause-none : goal.set_phase-requires-clause-none
set_phase-requires-clause-none c =
    let t = c.args.self.now in free t c.args.warp (open_row t c.args.warp c.requires.open).free

pub set_phase-requires-clause-stamp : goal.set_phase-requires-clause-stamp
set_phase-requires-clause-stamp c = (open_row c.args.self.now c.args.warp c.requires.open).on_time
