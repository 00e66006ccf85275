-- The log has room for the warp's request, and its stamp is not past the end of the clock.
use Rattle.std.proofs.Common.{ap, sym}
use Rattle.rules.specs.State.{is_waiting}
use Rattle.machine.proofs.SoundQueue.{room_of_request, waiting_on_time}
use Rattle.machine.proofs.warps.Warps.pending_access.Goals as goal

pub returns-clause-room : goal.returns-clause-room
returns-clause-room c =
    room_of_request c.args.self.now c.args.warp c.in_ok-request.request c.in_ok-request.ensures

pub returns-clause-on_time : goal.returns-clause-on_time
returns-clause-on_time c =
    waiting_on_time c.args.self.now c.args.warp (ap is_waiting (sym c.in-Waiting.ensures.value))
