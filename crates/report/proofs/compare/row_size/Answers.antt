use Rattle.std.proofs.Common.{◌∙◌, sym}
use Rattle.report.proofs.Cuts.{sized_some, sized_none}
use Rattle.report.proofs.compare.row_size.Goals as goal

pub returns-in-Some-clause-size : goal.returns-in-Some-clause-size
returns-in-Some-clause-size c =
    sym (sized_some c.args.text.now c.in-Some.place (sym c.find_feed.ensures.first ∙ c.in-Some.is))

pub returns-in-None-clause-size : goal.returns-in-None-clause-size
returns-in-None-clause-size c =
    sym (sized_none c.args.text.now (sym c.find_feed.ensures.first ∙ c.in-None.is))
