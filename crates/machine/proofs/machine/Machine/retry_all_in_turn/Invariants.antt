-- The turns so far were tried.
use Rattle.std.proofs.Common.{◌≡◌, take, fold}
use Rattle.machine.specs.Meaning.{state}
use Rattle.machine.specs.CallParts.{machine_after_turn}
use Rattle.machine.proofs.machine.Machine.retry_all_in_turn.Given as goal

abbrev pub invariant-loop-warp : goal.invariant-loop-warp
invariant-loop-warp g l = record {
  after :
      state g.M.Memory.at g.B.Book.kind g.B.Book.model l.self
      ≡ fold (machine_after_turn l.line)
      (state g.M.Memory.at g.B.Book.kind g.B.Book.model l.initial.self)
      (take l.warp-index l.warp-items);
  memory : l.self.memory ≡ l.initial.self.memory;
}
