use Rattle.rules.proofs.AccountsLaw.{law_of_accounts}
use Rattle.rules.proofs.Explanation.{law_of_explanation}
use Rattle.rules.proofs.order_explains.Goals as goal

pub returns : goal.returns
returns g c = law_of_explanation g.B.Versions.kind (law_of_accounts g.B.Versions.kind)
