-- The end of a transaction: its lines are released, and then the requests that wait for them are
-- retried.
use Rattle.std.specs.Prelude.{ℕ, List, [], ◌∷◌, ◌++◌, Some, None, fold, Option}
use Rattle.protocol.specs.declared.answer.Outcome.{Outcome}
use Rattle.protocol.specs.declared.answer.Outcome.TheVariants.{Gone as OutcomeGone}
use Rattle.book.specs.Meaning.{Kind, state_after_release}
use Rattle.rules.specs.declared.state.Access.{Access}
use Rattle.rules.specs.declared.state.Phase.TheVariants.{Open, Settled}
use Rattle.rules.specs.Logs.{logged_lines}
use Rattle.rules.specs.State.{WarpRow, MachineState, SettledRequest, idle_row, row_in_phase}
use Rattle.rules.specs.State.{warp_row_of}
use Rattle.rules.specs.State.{time_of, with_book, with_warp_row}
use Rattle.rules.specs.State.{with_queue}
use Rattle.rules.specs.declared.verdict.Verdict.{Verdict}
use Rattle.rules.specs.declared.verdict.Verdict.TheVariants.{OwnLine, Gone as VerdictGone, MustWait}
use Rattle.rules.specs.declared.verdict.Verdict.TheVariants.{GoOn}
use Rattle.rules.specs.Access.{line_state, retry_verdict}
use Rattle.rules.specs.Queue.{Policy, queue_without, pending_access}
use Rattle.rules.specs.Serving.{served_on_free_line}

-- What some retries leave: the machine, and the requests that were settled, in order.
pub record AfterRetries (k : Kind) : Type 0 where
  pub machine : MachineState k
  pub settled : List SettledRequest

-- A settled request, from its parts.
abbrev pub settled_request : ℕ → ℕ → Access → Outcome → SettledRequest
settled_request w line access outcome =
    record { warp = w; line = line; access = access; outcome = outcome }

-- The row of a warp whose request is settled. It keeps its stamp until the outcome is fetched.
abbrev pub row_with_outcome : WarpRow → Outcome → WarpRow
row_with_outcome warp_row outcome = row_in_phase warp_row (Settled outcome)

module _ {k : Kind} where
  -- A request is withdrawn: it leaves the queue, and its warp is open again.
  unfoldable pub after_withdrawal : MachineState k → ℕ → MachineState k
  after_withdrawal m w =
      with_queue (with_warp_row m w (row_in_phase (warp_row_of m w) Open))
      (queue_without m.queue w)

  -- A request is settled: it is withdrawn, and its warp has an outcome to fetch.
  unfoldable pub after_settling : MachineState k → ℕ → Outcome → MachineState k
  after_settling m w outcome =
      let withdrawn = after_withdrawal m w in
      with_warp_row withdrawn w (row_with_outcome (warp_row_of withdrawn w) outcome)

  -- A request is settled, and is added to the settled ones.
  abbrev pub with_settled : AfterRetries k → MachineState k → ℕ → ℕ → Access → Outcome
      → AfterRetries k
  with_settled st m w line access outcome =
      record {
        machine = after_settling m w outcome;
        settled = st.settled ++ settled_request w line access outcome ∷ [];
      }

  -- A retry, by its verdict. A request that must wait keeps its place in the queue. A retry skips
  -- the first access step, so its verdict is never `OwnLine`.
  unfoldable pub after_retry : AfterRetries k → ℕ → ℕ → Access → Verdict → AfterRetries k
  after_retry st w line access OwnLine = st
  after_retry st w line access (VerdictGone cause next) =
      with_settled st st.machine w line access (OutcomeGone cause next)
  after_retry st w line access MustWait = st
  after_retry st w line access GoOn =
      let served = served_on_free_line st.machine w line access in
      with_settled st served.machine w line access served.outcome

  -- One warp's turn at a line, given what it waits to do there. A warp that waits for nothing there
  -- is skipped.
  unfoldable pub after_turn_with : AfterRetries k → ℕ → ℕ → Option Access → AfterRetries k
  after_turn_with st w line None = st
  after_turn_with st w line (Some access) =
      after_retry st w line access
      (retry_verdict access (line_state k st.machine.book line) (time_of st.machine w))

  -- One warp's turn at a line. What it waits to do is looked up when its turn comes.
  abbrev pub after_turn : ℕ → AfterRetries k → ℕ → AfterRetries k
  after_turn line st w = after_turn_with st w line (pending_access st.machine w line)

  -- The turns of all warps at a line.
  unfoldable pub after_turns : Policy k → AfterRetries k → ℕ → AfterRetries k
  after_turns policy st line = fold (after_turn line) st (policy.turns st.machine line)

  -- The machine after some lines are released.
  abbrev pub with_lines_released : MachineState k → List ℕ → MachineState k
  with_lines_released m lines = with_book m (fold (state_after_release k) m.book lines)

  -- A warp gives up some lines: they are released, and then its row is replaced.
  unfoldable pub without_lines : MachineState k → ℕ → WarpRow → List ℕ → MachineState k
  without_lines m w warp_row lines = with_warp_row (with_lines_released m lines) w warp_row

  -- The requests that wait for some lines are retried, line by line.
  abbrev pub after_turns_at_lines : Policy k → MachineState k → List ℕ → AfterRetries k
  after_turns_at_lines policy m lines =
      fold (after_turns policy) (record { machine = m; settled = [] }) lines

  -- A warp gives up some lines in three steps: they are released, its row is replaced, and the
  -- requests that wait for them are retried.
  unfoldable pub after_giving_up : Policy k → MachineState k → ℕ → WarpRow → List ℕ → AfterRetries k
  after_giving_up policy m w warp_row lines =
      after_turns_at_lines policy (without_lines m w warp_row lines) lines

  -- A transaction ends: its warp gives up the lines that its log stores to, and is idle at a stamp.
  unfoldable pub after_end : Policy k → MachineState k → ℕ → ℕ → AfterRetries k
  after_end policy m w stamp =
      after_giving_up policy m w (idle_row stamp) (logged_lines (warp_row_of m w).log)
