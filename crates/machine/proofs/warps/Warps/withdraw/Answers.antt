-- A request may leave; then its warp has none.
use Rattle.std.proofs.Common.{sym, ap, ◌∙◌, subst}
use Rattle.machine.specs.Soundness.{QueueFitsRows}
use Rattle.machine.proofs.SoundQueue.{has_request, no_request_left, IsSound-queue_without}
use Rattle.machine.proofs.SoundQueue.{waiting_on_time}
use Rattle.machine.proofs.warps.Warps.withdraw.Goals as goal

pub invariant_of-self : goal.invariant_of-self
invariant_of-self c =
    let t = c.args.self.now in
    record {
      count = t.count;
      sound = subst (QueueFitsRows t.rows.items) (sym c.remove.ensures)
          (IsSound-queue_without _ _ c.args.warp t.sound);
    }

pub set_phase-requires-clause-none : goal.set_phase-requires-clause-none
set_phase-requires-clause-none c = ap (λ q. has_request q c.args.warp) c.remove.ensures
    ∙ no_request_left _ c.args.warp

pub set_phase-requires-clause-stamp : goal.set_phase-requires-clause-stamp
set_phase-requires-clause-stamp c = waiting_on_time c.args.self.now c.args.warp c.requires
