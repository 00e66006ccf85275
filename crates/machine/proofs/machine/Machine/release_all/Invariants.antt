-- The lines so far are released.
use Rattle.std.proofs.Common.{◌≡◌, take}
use Rattle.rules.specs.Ending.{with_lines_released}
use Rattle.machine.specs.Meaning.{state}
use Rattle.machine.proofs.machine.Machine.release_all.Given as goal

abbrev pub invariant-loop-line : goal.invariant-loop-line
invariant-loop-line g l = record {
  after :
      state g.M.Memory.at g.B.Book.kind g.B.Book.model l.self
      ≡ with_lines_released (state g.M.Memory.at g.B.Book.kind g.B.Book.model l.initial.self)
      (take l.line-index l.lines);
  memory : l.self.memory ≡ l.initial.self.memory;
}
