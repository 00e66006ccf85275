-- A request of an open warp may join, if the log has room.
use Rattle.std.proofs.Common.{◌≡◌, length, sym, refl, ap, ◌∙◌, subst, arith}
use Rattle.std.proofs.lemmas.List.{get_or-set_same}
use Rattle.rules.specs.State.{idle_row, warp_row_at, row_in_phase}
use Rattle.rules.specs.declared.state.Phase.TheVariants.{Waiting}
use Rattle.machine.specs.Warps.{warp_rows, warp_row}
use Rattle.machine.specs.Soundness.{QueueFitsRows}
use Rattle.machine.proofs.SoundQueue.{has_request, free, room_for, room_in_phase, IsSound-wait}
use Rattle.machine.proofs.SoundQueue.{open_row}
use Rattle.machine.proofs.warps.Warps.wait.Goals as goal

pub set_phase-requires-clause-none : goal.set_phase-requires-clause-none
set_phase-requires-clause-none c =
    let t = c.args.self.now in
    free t c.args.request.warp (open_row t c.args.request.warp c.requires.open).free

pub set_phase-requires-clause-stamp : goal.set_phase-requires-clause-stamp
set_phase-requires-clause-stamp c =
    (open_row c.args.self.now c.args.request.warp c.requires.open).on_time

pub push-requires : goal.push-requires
push-requires c =
    let t = c.args.self.now in
    let r = c.args.request in
    let o = open_row t r.warp c.requires.open in
    let room = room_for t r.warp o.inside o.free in
    let same = ap length c.set_phase.ensures.queue in
    omega arith

pub invariant_of-self : goal.invariant_of-self
invariant_of-self c =
    let old = c.args.self.now in
    let t = c.set_phase.new.self in
    let r = c.args.request in
    let o = open_row old r.warp c.requires.open in
    let none = ap (λ q. has_request q r.warp) c.set_phase.ensures.queue ∙ free old r.warp o.free in
    let here : warp_row t r.warp ≡ row_in_phase (warp_row old r.warp) Waiting =
    ap (λ ls. warp_row_at ls r.warp) c.set_phase.ensures.warp_rows
    ∙ get_or-set_same (warp_rows old) r.warp _ (idle_row 0) o.inside in
    let roomy = room_in_phase (warp_row old r.warp) Waiting r.access ∙ c.requires.room in
    record {
      count = t.count;
      sound = subst (QueueFitsRows t.rows.items) (sym c.push.ensures)
          (IsSound-wait t r (row_in_phase (warp_row old r.warp) Waiting) none here refl roomy);
    }
