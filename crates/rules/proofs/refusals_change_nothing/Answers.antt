use Rattle.std.proofs.Common.{ap}
use Rattle.rules.specs.Steps.{checked_step}
use Rattle.rules.proofs.refusals_change_nothing.Goals as goal

pub returns : goal.returns
returns g c = λ policy m call fault e. ap (checked_step policy m call) e
