-- The worked runs give what they state: each is computed.
use Rattle.std.proofs.Common.{refl}
use Rattle.rules.specs.Worked.{WorkedRunsStand}
use Rattle.rules.specs.Serving.{served_on_free_line, served_on_own_line}
use Rattle.rules.specs.Ending.{after_withdrawal, after_settling, after_retry, after_turn_with}
use Rattle.rules.specs.Ending.{after_turns, without_lines, after_giving_up, after_end}
use Rattle.rules.specs.Steps.{step_by_verdict, with_request_queued, fetched_step}
use Rattle.rules.specs.Runs.{run_with_call}

pub worked_runs_stand : WorkedRunsStand
unfolding run_with_call step_by_verdict served_on_free_line served_on_own_line after_withdrawal
    after_settling after_retry after_turn_with after_turns without_lines after_giving_up after_end
    with_request_queued fetched_step
worked_runs_stand = refl
