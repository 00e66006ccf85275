use Rattle.rules.proofs.Fetches.{law_of_fetches}
use Rattle.rules.proofs.fetches_return.Goals as goal

pub returns : goal.returns
returns g c = law_of_fetches g.B.Versions.kind
