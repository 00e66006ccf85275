-- The search through the requests.
use Rattle.std.proofs.Common.{eqb, ap, ◌∙◌, rules, tests}
use Rattle.std.proofs.lemmas.Iterator.{YieldsList-from_slice}
use Rattle.std.proofs.lemmas.Iterator.Search.{find_from_yields_List}
use Rattle.rules.specs.Queue.{request_of}
use Rattle.rules.specs.declared.state.Request.{Request}
use Rattle.machine.proofs.Searches.{find-request_of}
use Rattle.machine.proofs.queue.Queue.request_of.Goals as goal

pub returns : goal.returns
returns c =
    let requests = c.self.inside.requests.items in
    c.copied.ensures
    ∙ find_from_yields_List (λ (r : Request). eqb r.warp c.args.warp) _ _ c.find.result
    c.find.ensures.ran
    (YieldsList-from_slice requests cc) (λ x b q k. search (rules, tests))
    ∙ find-request_of requests c.args.warp ∙ ap (λ q. request_of q c.args.warp) c.self.view_is
