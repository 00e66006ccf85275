-- The requests at the lines so far were retried.
use Rattle.std.proofs.Common.{◌≡◌, take, fold}
use Rattle.machine.specs.Meaning.{state, policy_of}
use Rattle.machine.specs.CallParts.{machine_after_turns}
use Rattle.machine.proofs.machine.Machine.retry_lines.Given as goal

abbrev pub invariant-loop-line : goal.invariant-loop-line
invariant-loop-line g l = record {
  after :
      state g.M.Memory.at g.B.Book.kind g.B.Book.model l.self
      ≡ fold (machine_after_turns (policy_of g.B.Book.kind l.initial.self))
      (state g.M.Memory.at g.B.Book.kind g.B.Book.model l.initial.self) (take l.line-index l.lines);
  memory : l.self.memory ≡ l.initial.self.memory;
}
