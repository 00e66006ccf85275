-- The six calls. Every rule is defined for every machine and every number.
use Rattle.std.specs.Prelude.{ℕ, List, [], ◌∷◌, ◌++◌, Ok, Err, Result, Some, None, fold, Option}
use Rattle.protocol.specs.Answers.{answer_of}
use Rattle.protocol.specs.declared.answer.Answer.{Answer}
use Rattle.protocol.specs.declared.answer.Answer.TheVariants.{Done, Val, Wait, Gone}
use Rattle.protocol.specs.declared.answer.Outcome.{Outcome}
use Rattle.protocol.specs.declared.answer.Outcome.TheVariants.{Value, Stored, Gone as OutcomeGone}
use Rattle.protocol.specs.declared.call.Call.{Call}
use Rattle.protocol.specs.declared.call.Op.{Op}
use Rattle.protocol.specs.declared.call.Op.TheVariants.{Begin, Load, Store, Commit, Drop, Fetch}
use Rattle.protocol.specs.declared.fault.Fault.{Fault}
use Rattle.memory.specs.Lines.{Lines, lines_with}
use Rattle.book.specs.Meaning.{Kind}
use Rattle.rules.specs.declared.state.Access.{Access}
use Rattle.rules.specs.declared.state.Access.TheVariants.{Read, Write}
use Rattle.rules.specs.declared.state.Phase.{Phase}
use Rattle.rules.specs.declared.state.Phase.TheVariants.{Idle, Open, Waiting, Settled}
use Rattle.rules.specs.State.{MachineState, SettledRequest, open_row, row_in_phase, warp_row_of}
use Rattle.rules.specs.State.{time_of}
use Rattle.rules.specs.State.{with_lines, with_warp_row, with_queue}
use Rattle.rules.specs.Logs.{LogEntry}
use Rattle.rules.specs.declared.verdict.Verdict.{Verdict}
use Rattle.rules.specs.declared.verdict.Verdict.TheVariants.{OwnLine, Gone as VerdictGone, MustWait}
use Rattle.rules.specs.declared.verdict.Verdict.TheVariants.{GoOn}
use Rattle.rules.specs.Access.{line_state, access_verdict, verdict_with_room}
use Rattle.rules.specs.Queue.{Policy, is_full}
use Rattle.rules.specs.Refusals.{fault_of}
use Rattle.rules.specs.Serving.{Served, served_on_free_line, served_on_own_line}
use Rattle.rules.specs.Ending.{after_end, AfterRetries}

-- What a call leaves: the machine, its answer or its refusal, and the requests that it settled, in
-- order.
pub record Step (k : Kind) : Type 0 where
  pub machine : MachineState k
  pub answer : Result Answer Fault
  pub settled : List SettledRequest

-- The memory after some stores are written to it, in order.
abbrev pub lines_after_stores : Lines → List LogEntry → Lines
lines_after_stores lines stores =
    fold (λ ls (s : LogEntry). lines_with ls s.line s.value) lines stores

module _ {k : Kind} where
  -- A call that is answered and settles no request.
  abbrev pub answered_step : MachineState k → Answer → Step k
  answered_step m answer = record { machine = m; answer = Ok answer; settled = [] }

  -- A call that ends a transaction, so that it may settle requests.
  abbrev pub ended_step : AfterRetries k → Answer → Step k
  ended_step after answer =
      record { machine = after.machine; answer = Ok answer; settled = after.settled }

  -- A call that is refused: nothing changes.
  abbrev pub refused_step : MachineState k → Fault → Step k
  refused_step m fault = record { machine = m; answer = Err fault; settled = [] }

  -- The machine after a warp's log is written to memory. A commit does this first.
  abbrev pub with_log_written : MachineState k → ℕ → MachineState k
  with_log_written m w = with_lines m (lines_after_stores m.lines (warp_row_of m w).log)

  -- The machine after a request joins the queue, behind all others.
  unfoldable pub with_request_queued : MachineState k → ℕ → ℕ → Access → MachineState k
  with_request_queued m w line access =
      with_queue (with_warp_row m w (row_in_phase (warp_row_of m w) Waiting))
      (m.queue ++ record { warp = w; line = line; access = access } ∷ [])

  -- A load or a store that is served: its outcome is the answer.
  abbrev pub served_step : Served k → Step k
  served_step served = answered_step served.machine (answer_of served.outcome)

  -- A load or a store, by its verdict.
  unfoldable pub step_by_verdict : Policy k → MachineState k → ℕ → ℕ → Access → Verdict → Step k
  step_by_verdict policy m w line access OwnLine = served_step (served_on_own_line m w line access)
  step_by_verdict policy m w line access (VerdictGone cause next) =
      ended_step (after_end policy m w next) (Gone cause next)
  step_by_verdict policy m w line access MustWait =
      answered_step (with_request_queued m w line access) Wait
  step_by_verdict policy m w line access GoOn = served_step (served_on_free_line m w line access)

  -- The verdict on a load or a store: the access steps, at what the book says of the line now, and
  -- then the room in the queue.
  abbrev pub verdict_at : Policy k → MachineState k → ℕ → ℕ → Access → Verdict
  verdict_at policy m w line access =
      verdict_with_room (is_full policy.line_room policy.queue_room m.queue line)
      (warp_row_of m w).stamp
      (access_verdict access (line_state k m.book line) (time_of m w))

  -- A load or a store.
  abbrev pub access_step : Policy k → MachineState k → ℕ → ℕ → Access → Step k
  access_step policy m w line access =
      step_by_verdict policy m w line access (verdict_at policy m w line access)

  -- The machine after a warp goes on with its transaction.
  abbrev pub with_warp_resumed : MachineState k → ℕ → MachineState k
  with_warp_resumed m w = with_warp_row m w (row_in_phase (warp_row_of m w) Open)

  -- A fetch of an outcome: after a value or a store the warp goes on, and after an abort its
  -- transaction ends.
  unfoldable pub fetched_step : Policy k → MachineState k → ℕ → Outcome → Step k
  fetched_step policy m w (Value value) = answered_step (with_warp_resumed m w) (Val value)
  fetched_step policy m w Stored = answered_step (with_warp_resumed m w) Done
  fetched_step policy m w (OutcomeGone cause next) =
      ended_step (after_end policy m w next) (Gone cause next)

  -- A fetch, by the phase of its warp. A fetch by an idle or an open warp is refused earlier; here
  -- its answer would be wait.
  abbrev pub fetch_step : Policy k → MachineState k → ℕ → Phase → Step k
  fetch_step policy m w Idle = answered_step m Wait
  fetch_step policy m w Open = answered_step m Wait
  fetch_step policy m w Waiting = answered_step m Wait
  fetch_step policy m w (Settled outcome) = fetched_step policy m w outcome

  -- A call that is not refused.
  abbrev pub accepted_step : Policy k → MachineState k → ℕ → Op → Step k
  accepted_step policy m w Begin =
      answered_step (with_warp_row m w (open_row (warp_row_of m w).stamp)) Done
  accepted_step policy m w (Load line) = access_step policy m w line Read
  accepted_step policy m w (Store line value) = access_step policy m w line (Write value)
  accepted_step policy m w Commit =
      ended_step (after_end policy (with_log_written m w) w (warp_row_of m w).stamp) Done
  accepted_step policy m w Drop = ended_step (after_end policy m w (warp_row_of m w).stamp) Done
  accepted_step policy m w Fetch = fetch_step policy m w (warp_row_of m w).phase

  -- A call, given the fault that refuses it, if any. A refused call changes nothing.
  abbrev pub checked_step : Policy k → MachineState k → Call → Option Fault → Step k
  checked_step policy m call None = accepted_step policy m call.warp call.op
  checked_step policy m call (Some fault) = refused_step m fault

  -- A call: it is refused, or else it is executed.
  abbrev pub step : Policy k → MachineState k → Call → Step k
  step policy m call = checked_step policy m call (fault_of m call)
