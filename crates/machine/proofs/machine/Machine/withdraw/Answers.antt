-- The table's withdrawal is the rules'.
use Rattle.machine.specs.Warps.{warp_rows, queue_of}
use Rattle.machine.specs.Meaning.{state}
use Rattle.machine.proofs.Withdrawals.{withdrawal_is}
use Rattle.machine.proofs.machine.Machine.withdraw.Goals as goal

pub returns-clause-after : goal.returns-clause-after
returns-clause-after g c =
    withdrawal_is (state g.M.Memory.at g.B.Book.kind g.B.Book.model c.args.self.now) c.args.warp
    (warp_rows c.withdraw.new.self) (queue_of c.withdraw.new.self)
    c.withdraw.ensures.warp_rows c.withdraw.ensures.queue
