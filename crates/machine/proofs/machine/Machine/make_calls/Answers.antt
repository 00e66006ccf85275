-- One call more, and then the whole run.
use Rattle.std.proofs.Common.{refl, ◌∙◌}
use Rattle.machine.specs.Meaning.{state, policy_of}
use Rattle.machine.proofs.Runs.{run_with_one_more, run_of_all}
use Rattle.machine.proofs.machine.Machine.make_calls.Goals as goal

pub loop-place-init : goal.loop-place-init
loop-place-init g c =
    record { so_far = record { machine_is = refl; answers_are = refl }; loan = refl }

pub loop-place-preserved : goal.loop-place-preserved
loop-place-preserved g c =
    record {
      so_far =
          run_with_one_more (policy_of g.B.Book.kind c.args.self.now)
          (state g.M.Memory.at g.B.Book.kind g.B.Book.model c.args.self.now) c.args.answers.now
          c.args.calls.now
          c.loop-place.place _ _ _ _ c.loop-place.answers _ c.call.result c.loop-place-test.true
          c.requires refl
          c.loop-place.invariant.so_far c.call.ensures.after c.call.ensures.answer refl;
      loan = c.call.ensures.loan ∙ c.loop-place.invariant.loan;
    }

pub returns : goal.returns
returns g c =
    let done = run_of_all (policy_of g.B.Book.kind c.args.self.now)
    (state g.M.Memory.at g.B.Book.kind g.B.Book.model c.args.self.now) c.args.answers.now
    c.args.calls.now
    c.loop-place.place _ _ c.loop-place-test.false c.loop-place.invariant.so_far in
    record {
      after = done.machine_is;
      answers = done.answers_are;
      loan = c.loop-place.invariant.loan;
    }
