-- Released, idle, and then retried.
use Rattle.std.proofs.Common.{ap, ◌∙◌}
use Rattle.rules.specs.State.{MachineState, idle_row, is_waiting, warp_row_of}
use Rattle.machine.specs.Warps.{warp_rows, queue_of}
use Rattle.machine.specs.Meaning.{state, policy_of}
use Rattle.machine.proofs.TransactionEnd.{after_giving_up_is}
use Rattle.machine.proofs.machine.Machine.give_up.Goals as goal

pub make_idle-requires-clause-free : goal.make_idle-requires-clause-free
make_idle-requires-clause-free g c =
    ap (λ (m : MachineState _). is_waiting (warp_row_of m c.args.warp).phase)
    c.release_all.ensures.after
    ∙ c.requires.free

pub returns-clause-after : goal.returns-clause-after
returns-clause-after g c =
    let m = state g.M.Memory.at g.B.Book.kind g.B.Book.model c.args.self.now in
    let mid = state g.M.Memory.at g.B.Book.kind g.B.Book.model c.release_all.new.self in
    after_giving_up_is (policy_of g.B.Book.kind c.args.self.now) m c.args.warp
    (idle_row c.args.stamp) mid _
    (warp_rows c.make_idle.new.self)
    (queue_of c.make_idle.new.self) c.args.lines.now c.release_all.ensures.after
    c.make_idle.ensures.warp_rows c.make_idle.ensures.queue c.retry_lines.ensures.after
