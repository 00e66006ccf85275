-- What the parts of a call leave of the machine.
use Rattle.std.specs.Prelude.{ℕ, [], ◌∷◌, ◌++◌, length, Some, None, Ok, Err, Option, Result, nat_le}
use Rattle.std.specs.Prelude.{nat_lt}
use Rattle.std.specs.Option.{unwrap_or, option_or}
use Rattle.protocol.specs.Limits.{log_limit, last_stamp}
use Rattle.protocol.specs.declared.answer.Outcome.{Outcome}
use Rattle.protocol.specs.declared.call.Op.{Op}
use Rattle.protocol.specs.declared.fault.Fault.{Fault}
use Rattle.protocol.specs.declared.fault.Refusal.TheVariants.{LogFull, ClockSpent}
use Rattle.book.specs.Meaning.{Kind, state_after_reserve}
use Rattle.rules.specs.declared.state.Access.{Access}
use Rattle.rules.specs.declared.state.Phase.TheVariants.{Waiting}
use Rattle.rules.specs.declared.state.Request.{Request}
use Rattle.rules.specs.Logs.{last_stored}
use Rattle.rules.specs.State.{WarpRow, MachineState, with_book, with_warp_row, with_queue}
use Rattle.rules.specs.State.{row_in_phase}
use Rattle.rules.specs.State.{time_of, warp_row_of}
use Rattle.rules.specs.declared.verdict.Verdict.{Verdict}
use Rattle.rules.specs.declared.verdict.Verdict.TheVariants.{MustWait}
use Rattle.rules.specs.Access.{verdict_with_room}
use Rattle.rules.specs.Queue.{Policy, is_full}
use Rattle.rules.specs.Ending.{AfterRetries, row_with_outcome, after_settling, after_turn}
use Rattle.rules.specs.Ending.{after_turns}
use Rattle.rules.specs.Steps.{Step, step_by_verdict, step}
use Rattle.rules.specs.Serving.{memory_value, served_on_free_line}
use Rattle.rules.specs.Refusals.{fault_unless, refusal_fault, phase_refusal, number_fault}

module _ {k : Kind} where
  -- Before the first retry: nothing is settled yet.
  abbrev pub before_retries : MachineState k → AfterRetries k
  before_retries m = record { machine = m; settled = [] }

  -- A warp gets an outcome to fetch.
  abbrev pub with_outcome : MachineState k → ℕ → Outcome → MachineState k
  with_outcome m w outcome = with_warp_row m w (row_with_outcome (warp_row_of m w) outcome)

  -- A waiting request is served and settled.
  abbrev pub after_serving : MachineState k → ℕ → ℕ → Access → MachineState k
  after_serving m w line access =
      let served = served_on_free_line m w line access
      in after_settling served.machine w served.outcome

  -- The machine after one warp's turn at a line, and after all turns at it.
  abbrev pub machine_after_turn : ℕ → MachineState k → ℕ → MachineState k
  machine_after_turn line m w = (after_turn line (before_retries m) w).machine

  abbrev pub machine_after_turns : Policy k → MachineState k → ℕ → MachineState k
  machine_after_turns policy m line = (after_turns policy (before_retries m) line).machine

  -- The last value that a warp logged for a line, or else the line's.
  abbrev pub own_value : MachineState k → ℕ → ℕ → ℕ
  own_value m w line = unwrap_or (last_stored (warp_row_of m w).log line) (memory_value m line)

  -- A line reserved for a warp's transaction.
  abbrev pub with_line_reserved : MachineState k → ℕ → ℕ → MachineState k
  with_line_reserved m w line = with_book m (state_after_reserve k m.book line (time_of m w))

  -- The verdict on a request that must wait: without room in the queue its transaction is gone.
  abbrev pub wait_verdict : Policy k → MachineState k → ℕ → ℕ → Verdict
  wait_verdict policy m w line =
      verdict_with_room (is_full policy.line_room policy.queue_room m.queue line)
      (warp_row_of m w).stamp MustWait

  -- The step by that verdict.
  abbrev pub wait_step : Policy k → MachineState k → ℕ → ℕ → Access → Step k
  wait_step policy m w line access =
      step_by_verdict policy m w line access (wait_verdict policy m w line)

  -- A request joins the queue, behind all others; its warp waits.
  abbrev pub with_request : MachineState k → Request → MachineState k
  with_request m r =
      with_queue (with_warp_row m r.warp (row_in_phase (warp_row_of m r.warp) Waiting))
      (m.queue ++ r ∷ [])

  -- The step of one of the six calls.
  abbrev pub step_of : Policy k → MachineState k → ℕ → Op → Step k
  step_of policy m w op = step policy m (record { warp = w; op = op })

-- The fault of a full log, and that of a spent clock.
abbrev pub room_fault : WarpRow → Option Fault
room_fault l = fault_unless (nat_lt (length l.log) log_limit) LogFull (length l.log)

abbrev pub clock_fault : WarpRow → Option Fault
clock_fault l = fault_unless (nat_le l.stamp last_stamp) ClockSpent l.stamp

-- The fault of a call of a warp that the machine has.
abbrev pub warp_fault : {k : Kind} → MachineState k → ℕ → Op → Option Fault
warp_fault m w op = option_or (refusal_fault (phase_refusal (warp_row_of m w).phase op) w)
    (number_fault m w op)

-- A refusal, if there is one, as a result.
abbrev pub as_result : Option Fault → Result (Unit {0}) Fault
as_result None = Ok tt
as_result (Some fault) = Err fault
