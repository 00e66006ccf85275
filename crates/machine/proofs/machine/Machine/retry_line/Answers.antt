-- If no request waits, there is nothing to do.
use Rattle.std.proofs.Common.{sym, ◌∙◌}
use Rattle.machine.specs.Meaning.{state}
use Rattle.machine.proofs.Retries.{no_turns}
use Rattle.machine.proofs.machine.Machine.retry_line.Goals as goal

pub returns-else-any_waits-clause-after : goal.returns-else-any_waits-clause-after
returns-else-any_waits-clause-after g c =
    let m = state g.M.Memory.at g.B.Book.kind g.B.Book.model c.args.self.now in
    no_turns m c.args.line (sym c.any_waits.ensures ∙ c.if-any_waits.false)
