-- By what is pending, and by the verdict.
use Rattle.std.proofs.Common.{sym, ◌∙◌, ⊎_elim}
use Rattle.machine.specs.Meaning.{state}
use Rattle.machine.proofs.Retries.{turn_without_request, turn_by_verdict, try_gone, try_going_on}
use Rattle.machine.proofs.Retries.{try_on_own_line, try_waiting, retried_here}
use Rattle.machine.proofs.machine.Machine.retry_in_turn.Goals as goal

pub returns-in_default-clause-after : goal.returns-in_default-clause-after
returns-in_default-clause-after g c =
    let m = state g.M.Memory.at g.B.Book.kind g.B.Book.model c.args.self.now in
    turn_without_request m c.args.warp c.args.line c.in_default.ensures.value

pub returns-in-Gone-clause-after : goal.returns-in-Gone-clause-after
returns-in-Gone-clause-after g c =
    let m = state g.M.Memory.at g.B.Book.kind g.B.Book.model c.args.self.now in
    let w = c.args.warp in
    let line = c.args.line in
    let access = c.in-Some.access in
    c.withdraw_and_settle.ensures.after
    ∙ try_gone m w line access c.in-Gone.cause c.in-Gone.next
    ∙ turn_by_verdict m w line access _ c.in-Some.ensures.value
    (retried_here m w line access _ _ _ _ c.encounter.ensures.access c.encounter.ensures.line
    c.encounter.ensures.time c.in-Gone.ensures.value)

pub returns-in-GoOn-clause-after : goal.returns-in-GoOn-clause-after
returns-in-GoOn-clause-after g c =
    let m = state g.M.Memory.at g.B.Book.kind g.B.Book.model c.args.self.now in
    let w = c.args.warp in
    let line = c.args.line in
    let access = c.in-Some.access in
    c.serve_waiting.ensures.after
    ∙ try_going_on m w line access
    ∙ turn_by_verdict m w line access _ c.in-Some.ensures.value
    (retried_here m w line access _ _ _ _ c.encounter.ensures.access c.encounter.ensures.line
    c.encounter.ensures.time c.in-GoOn.ensures.value)

pub returns-in-OwnLine-clause-after : goal.returns-in-OwnLine-clause-after
returns-in-OwnLine-clause-after g c =
    let m = state g.M.Memory.at g.B.Book.kind g.B.Book.model c.args.self.now in
    let w = c.args.warp in
    let line = c.args.line in
    let access = c.in-Some.access in
    ⊎_elim
    (λ is. try_on_own_line m w line access
    ∙ turn_by_verdict m w line access _ c.in-Some.ensures.value
    (retried_here m w line access _ _ _ _ c.encounter.ensures.access c.encounter.ensures.line
    c.encounter.ensures.time (sym is ∙ c.retry_verdict.ensures.value)))
    (λ is. try_waiting m w line access
    ∙ turn_by_verdict m w line access _ c.in-Some.ensures.value
    (retried_here m w line access _ _ _ _ c.encounter.ensures.access c.encounter.ensures.line
    c.encounter.ensures.time (sym is ∙ c.retry_verdict.ensures.value)))
    c.in-OwnLine.is
