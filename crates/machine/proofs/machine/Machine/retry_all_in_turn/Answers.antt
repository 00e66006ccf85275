-- All turns were tried.
use Rattle.std.proofs.Common.{fold, sym, ap, ◌∙◌, arith}
use Rattle.std.proofs.lemmas.List.{take_all}
use Rattle.machine.specs.Meaning.{state, policy_of}
use Rattle.machine.specs.CallParts.{machine_after_turn}
use Rattle.machine.proofs.Retries.{machine_after_turns-fold}
use Rattle.machine.proofs.machine.Machine.retry_all_in_turn.Goals as goal

pub returns-clause-after : goal.returns-clause-after
returns-clause-after g c =
    let m = state g.M.Memory.at g.B.Book.kind g.B.Book.model c.args.self.now in
    let l = c.loop-warp in
    let all = take_all l.warp-index c.as_slice-warp-items.result.now (omega arith) in
    l.invariant.after
    ∙ ap (fold (machine_after_turn c.args.line) m)
    (all ∙ c.as_slice-warp-items.ensures.value ∙ c.turns-turns.ensures)
    ∙ sym (machine_after_turns-fold (policy_of g.B.Book.kind c.args.self.now) m c.args.line)
