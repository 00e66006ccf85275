-- Machine and answers so far are those of the run so far.
use Rattle.std.proofs.Common.{◌≡◌, take}
use Rattle.machine.specs.Meaning.{state, policy_of, loan}
use Rattle.machine.proofs.Runs.{So}
use Rattle.machine.proofs.machine.Machine.make_calls.Given as goal

abbrev pub invariant-loop-place : goal.invariant-loop-place
invariant-loop-place g l = record {
  so_far :
      So (policy_of g.B.Book.kind l.initial.self)
      (state g.M.Memory.at g.B.Book.kind g.B.Book.model l.initial.self) l.initial.answers
      (take l.place l.calls) (state g.M.Memory.at g.B.Book.kind g.B.Book.model l.self) l.answers;
  loan : loan g.M.Memory.lent g.M.Memory.spare l.self ≡ loan g.M.Memory.lent g.M.Memory.spare
      l.initial.self;
}
