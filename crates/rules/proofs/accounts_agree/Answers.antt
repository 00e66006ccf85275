use Rattle.rules.proofs.AccountsLaw.{law_of_accounts}
use Rattle.rules.proofs.accounts_agree.Goals as goal

pub returns : goal.returns
returns g c = law_of_accounts g.B.Versions.kind
