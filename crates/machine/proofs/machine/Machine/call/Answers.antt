-- Refused, or granted.
use Rattle.std.proofs.Common.{◌≡◌, Err, refl, ap, ◌∙◌}
use Rattle.std.proofs.lemmas.Result.{err_from_is_err_and}
use Rattle.rules.specs.Steps.{Step}
use Rattle.rules.specs.Refusals.{fault_of}
use Rattle.machine.specs.Meaning.{state, policy_of}
use Rattle.machine.specs.CallParts.{as_result}
use Rattle.machine.proofs.CheckedCalls.{accepted_step_is, refused_machine, refused_answer}
use Rattle.machine.proofs.CheckedCalls.{refused_at}
use Rattle.machine.proofs.machine.Machine.call.Goals as goal

pub returns-in_err-check : goal.returns-in_err-check
returns-in_err-check g c =
    let m = state g.M.Memory.at g.B.Book.kind g.B.Book.model c.args.self.now in
    let policy = policy_of g.B.Book.kind c.args.self.now in
    let p = err_from_is_err_and c.from_residual.result c.from_residual.ensures.1 in
    let why : Err p.0 ≡ as_result (fault_of m c.args.call) = ap Err p.2 ∙ c.in_err-check.ensures in
    record {
      after = refused_machine policy m c.args.call p.0 why;
      answer = p.1 ∙ refused_answer policy m c.args.call p.0 why;
      unchanged = refused_at c.from_residual.result p.0 _ p.1 refl;
      loan = refl;
    }

pub returns : goal.returns
returns g c =
    let m = state g.M.Memory.at g.B.Book.kind g.B.Book.model c.args.self.now in
    let is = accepted_step_is (policy_of g.B.Book.kind c.args.self.now) m c.args.call
    c.in_ok-check.ensures in
    record {
      after = c.accept.ensures.after ∙ ap (λ (s : Step _). s.machine) is;
      answer = c.accept.ensures.answer ∙ ap (λ (s : Step _). s.answer) is;
      unchanged = tt;
      loan = c.accept.ensures.loan;
    }
