use Rattle.rules.proofs.TablesLaw.{law_of_tables}
use Rattle.rules.proofs.tables_agree.Goals as goal

pub returns : goal.returns
returns g c = law_of_tables g.B.Versions.kind
