use Rattle.rules.proofs.WaitsLaw.{law_of_waits}
use Rattle.rules.proofs.waits_end.Goals as goal

pub returns : goal.returns
returns g c = law_of_waits g.B.Versions.kind
