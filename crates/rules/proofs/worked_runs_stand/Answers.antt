use Rattle.rules.proofs.WorkedRuns.{worked_runs_stand}
use Rattle.rules.proofs.worked_runs_stand.Goals as goal

pub returns : goal.returns
returns c = worked_runs_stand
