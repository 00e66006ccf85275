-- The search through the requests.
use Rattle.std.proofs.Common.{eqb, ltb, length, ap, ◌∙◌, rules, tests}
use Rattle.std.proofs.lemmas.Iterator.{YieldsList-from_slice}
use Rattle.std.proofs.lemmas.Iterator.Search.{any_from_yields_List}
use Rattle.rules.specs.Queue.{requests_on}
use Rattle.rules.specs.declared.state.Request.{Request}
use Rattle.machine.proofs.Searches.{list_any-requests_on}
use Rattle.machine.proofs.queue.Queue.any_on.Goals as goal

pub returns : goal.returns
returns c =
    let requests = c.self.inside.requests.items in
    any_from_yields_List (λ (r : Request). eqb r.line c.args.line) _ _ c.any.result
    c.any.ensures.ran
    (YieldsList-from_slice requests cc) (λ x b q k. search (rules, tests))
    ∙ list_any-requests_on requests c.args.line
    ∙ ap (λ q. ltb 0 (length (requests_on q c.args.line))) c.self.view_is
