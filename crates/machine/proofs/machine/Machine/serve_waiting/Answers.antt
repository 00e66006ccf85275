-- Withdrawn, its warp is open and keeps its room; served, it is still open, and its outcome has no
-- next stamp.
use Rattle.std.proofs.Common.{◌≤◌, sym, ap, ◌∙◌, subst}
use Rattle.rules.specs.State.{MachineState, warp_row_of}
use Rattle.rules.specs.Serving.{served_on_free_line}
use Rattle.machine.specs.Phases.{highest_stamp, next_stamp, is_open}
use Rattle.machine.specs.Warps.{has_room}
use Rattle.machine.specs.Meaning.{state}
use Rattle.machine.proofs.Withdrawals.{withdrawn_open, withdrawn_room, served_open, served_on_time}
use Rattle.machine.proofs.Withdrawals.{served_after_withdrawal}
use Rattle.machine.proofs.machine.Machine.serve_waiting.Goals as goal

pub serve-outcome-requires-clause-open : goal.serve-outcome-requires-clause-open
serve-outcome-requires-clause-open g c =
    let m = state g.M.Memory.at g.B.Book.kind g.B.Book.model c.args.self.now in
    let w = c.args.request.warp in
    ap (λ (x : MachineState _). is_open (warp_row_of x w).phase) c.withdraw.ensures.after
    ∙ withdrawn_open m w c.requires.waiting

pub serve-outcome-requires-clause-room : goal.serve-outcome-requires-clause-room
serve-outcome-requires-clause-room g c =
    let m = state g.M.Memory.at g.B.Book.kind g.B.Book.model c.args.self.now in
    let w = c.args.request.warp in
    let access = c.args.request.access in
    ap (λ (x : MachineState _). has_room (warp_row_of x w) access) c.withdraw.ensures.after
    ∙ withdrawn_room m w c.requires.waiting access c.requires.room

pub settle-requires-clause-open : goal.settle-requires-clause-open
settle-requires-clause-open g c =
    let m = state g.M.Memory.at g.B.Book.kind g.B.Book.model c.args.self.now in
    let mid = state g.M.Memory.at g.B.Book.kind g.B.Book.model c.withdraw.new.self in
    let w = c.args.request.warp in
    ap (λ (x : MachineState _). is_open (warp_row_of x w).phase) c.serve-outcome.ensures.after
    ∙ served_open mid w c.args.request.line c.args.request.access
    (ap (λ (x : MachineState _). is_open (warp_row_of x w).phase) c.withdraw.ensures.after
    ∙ withdrawn_open m w c.requires.waiting)

pub settle-requires-clause-bound : goal.settle-requires-clause-bound
settle-requires-clause-bound g c =
    let mid = state g.M.Memory.at g.B.Book.kind g.B.Book.model c.withdraw.new.self in
    subst (λ o. next_stamp o ≤ highest_stamp) (sym c.serve-outcome.ensures.answer)
    (served_on_time mid c.args.request.warp c.args.request.line c.args.request.access)

pub returns-clause-after : goal.returns-clause-after
returns-clause-after g c =
    let m = state g.M.Memory.at g.B.Book.kind g.B.Book.model c.args.self.now in
    let w = c.args.request.warp in
    let line = c.args.request.line in
    let access = c.args.request.access in
    served_after_withdrawal m w c.requires.waiting line _ _ access _
    (c.serve-outcome.ensures.after
    ∙ ap (λ x. (served_on_free_line x w line access).machine) c.withdraw.ensures.after)
    (c.serve-outcome.ensures.answer
    ∙ ap (λ x. (served_on_free_line x w line access).outcome) c.withdraw.ensures.after)
    c.settle.ensures.after
