-- Each line is below the limit, and the requests at all lines were retried.
use Rattle.std.proofs.Common.{◌<◌, fold, sym, ap, ◌∙◌, arith}
use Rattle.std.proofs.lemmas.List.{take_all}
use Rattle.std.proofs.lemmas.List.Elements.{All-get_or}
use Rattle.protocol.specs.Limits.{line_limit}
use Rattle.machine.specs.Meaning.{state, policy_of}
use Rattle.machine.specs.CallParts.{machine_after_turns}
use Rattle.machine.proofs.Retries.{after_turns_at_lines-fold}
use Rattle.machine.proofs.machine.Machine.retry_lines.Goals as goal

pub retry_line-requires : goal.retry_line-requires
retry_line-requires g c =
    All-get_or (λ line. line < line_limit) c.args.lines.now c.loop-line.line-index 0
    c.loop-line-test.true c.requires

pub returns-clause-after : goal.returns-clause-after
returns-clause-after g c =
    let m = state g.M.Memory.at g.B.Book.kind g.B.Book.model c.args.self.now in
    let policy = policy_of g.B.Book.kind c.args.self.now in
    c.loop-line.invariant.after
    ∙ ap (fold (machine_after_turns policy) m)
    (take_all c.loop-line.line-index c.args.lines.now (omega arith))
    ∙ sym (after_turns_at_lines-fold policy m c.args.lines.now)
