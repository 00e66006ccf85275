-- A warp with an outcome has no request, and its stamp is not past the end of the clock.
use Rattle.machine.proofs.SoundQueue.{free, busy_on_time, settled_phase}
use Rattle.machine.proofs.warps.Warps.resume.Goals as goal

pub set_phase-requires-clause-none : goal.set_phase-requires-clause-none
set_phase-requires-clause-none c = free c.args.self.now c.args.warp (settled_phase _ c.requires).0

pub set_phase-requires-clause-stamp : goal.set_phase-requires-clause-stamp
set_phase-requires-clause-stamp c =
    busy_on_time c.args.self.now c.args.warp (settled_phase _ c.requires).1
