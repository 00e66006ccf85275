-- The example, computed.
use Rattle.condensed.specs.Lemmas.Indices.{line_five}
use Rattle.condensed.proofs.filter.indices.Goals as goal

pub returns-clause-example : goal.returns-clause-example
returns-clause-example c = line_five
