-- Withdrawn, its warp is open and gets the outcome.
use Rattle.std.proofs.Common.{ap, ◌∙◌}
use Rattle.rules.specs.State.{MachineState, warp_row_of}
use Rattle.machine.specs.Phases.{is_open}
use Rattle.machine.specs.Meaning.{state}
use Rattle.machine.specs.CallParts.{with_outcome}
use Rattle.machine.proofs.Withdrawals.{settling_is, withdrawn_open}
use Rattle.machine.proofs.machine.Machine.withdraw_and_settle.Goals as goal

pub settle-requires-clause-open : goal.settle-requires-clause-open
settle-requires-clause-open g c =
    let m = state g.M.Memory.at g.B.Book.kind g.B.Book.model c.args.self.now in
    ap (λ (x : MachineState _). is_open (warp_row_of x c.args.warp).phase) c.withdraw.ensures.after
    ∙ withdrawn_open m c.args.warp c.requires.waiting

pub returns-clause-after : goal.returns-clause-after
returns-clause-after g c =
    settling_is (state g.M.Memory.at g.B.Book.kind g.B.Book.model c.args.self.now) c.args.warp _
    c.args.outcome
    (c.settle.ensures.after
    ∙ ap (λ x. with_outcome x c.args.warp c.args.outcome) c.withdraw.ensures.after)
