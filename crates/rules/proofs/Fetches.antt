-- The law of fetches: a fetch returns the outcome that was recorded in the ledger at the call that
-- settled its warp's request. The invariant links phases, transactions and settled requests, and
-- needs nothing of the book.
use Rattle.std.proofs.Common.{◌≡◌, ◌≢◌, ℕ, zero, suc, ◌≤◌, cond, eqb, ◌⊎◌, List, [], ◌∷◌, ◌++◌, map}
use Rattle.std.proofs.Common.{length, set, Ok, Some, None, fold, Option, sym, refl, ap, ◌∙◌, subst}
use Rattle.std.proofs.Common.{inl, inr, ⊎_elim, arith, length-set, append_assoc}
use Rattle.std.proofs.lemmas.Bool.{ne_eqb, eq-eqb, cases_eq, cases_lt}
use Rattle.std.proofs.lemmas.List.{get_or-set_same, get_or-set_other, get_or_past, append-nil}
use Rattle.std.proofs.lemmas.List.Sums.{fold_push}
use Rattle.std.specs.Option.{option_map, option_or}
use Rattle.protocol.specs.Answers.{answer_of}
use Rattle.protocol.specs.declared.answer.Answer.{Answer}
use Rattle.protocol.specs.declared.answer.Answer.TheVariants.{Wait}
use Rattle.protocol.specs.declared.answer.Cause.{Cause}
use Rattle.protocol.specs.declared.answer.Outcome.{Outcome}
use Rattle.protocol.specs.declared.answer.Outcome.TheVariants.{Value, Stored, Gone as OutcomeGone}
use Rattle.protocol.specs.declared.call.Call.{Call}
use Rattle.protocol.specs.declared.call.Op.{Op}
use Rattle.protocol.specs.declared.call.Op.TheVariants.{Begin, Load, Store, Commit, Drop, Fetch}
use Rattle.protocol.specs.declared.fault.Fault.{Fault}
use Rattle.protocol.specs.declared.fault.Refusal.{Refusal}
use Rattle.book.specs.Meaning.{Kind}
use Rattle.rules.specs.declared.state.Access.{Access}
use Rattle.rules.specs.declared.state.Access.TheVariants.{Read, Write}
use Rattle.rules.specs.declared.state.Phase.{Phase}
use Rattle.rules.specs.declared.state.Phase.TheVariants.{Idle, Open, Waiting, Settled}
use Rattle.rules.specs.Logs.{log_entry, logged_lines}
use Rattle.rules.specs.State.{WarpRow, MachineState, SettledRequest, idle_row, open_row, is_waiting}
use Rattle.rules.specs.State.{row_in_phase, warp_row_at, warp_row_of}
use Rattle.rules.specs.State.{time_of, with_warp_row}
use Rattle.rules.specs.declared.verdict.Verdict.{Verdict}
use Rattle.rules.specs.declared.verdict.Verdict.TheVariants.{OwnLine, Gone as VerdictGone, MustWait}
use Rattle.rules.specs.declared.verdict.Verdict.TheVariants.{GoOn}
use Rattle.rules.specs.Access.{line_state, retry_verdict}
use Rattle.rules.specs.Queue.{Policy, request_of, access_at, pending_access}
use Rattle.rules.specs.Refusals.{phase_refusal, refusal_fault, fault_of}
use Rattle.rules.specs.Serving.{served_on_free_line, served_on_own_line}
use Rattle.rules.specs.Ending.{AfterRetries, settled_request, after_withdrawal, after_settling}
use Rattle.rules.specs.Ending.{after_retry, after_turn_with, after_turn, after_turns, without_lines}
use Rattle.rules.specs.Ending.{after_giving_up, after_end}
use Rattle.rules.specs.Steps.{Step, with_request_queued, step_by_verdict, verdict_at, fetched_step}
use Rattle.rules.specs.Steps.{fetch_step, accepted_step, checked_step, step}
use Rattle.rules.specs.Steps.{with_log_written}
use Rattle.rules.specs.Making.{new_machine, first_warp_rows, making_fault}
use Rattle.rules.specs.Runs.{Event, Run, event_of, run_with_call, settled_requests}
use Rattle.rules.specs.Runs.{last_settled_request}
use Rattle.rules.specs.Transactions.{Action, loaded, stored, load_action, Transaction}
use Rattle.rules.specs.Ledger.{Ledger, with_action, load_source, with_current, with_joined_action}
use Rattle.rules.specs.Ledger.{with_begun, without_current, with_committed, ledger_after_reply}
use Rattle.rules.specs.Ledger.{ledger_after_outcome, ledger_after_settled}
use Rattle.rules.specs.Ledger.{ledger_after_event, new_ledger, ledger_of}
use Rattle.rules.specs.Laws.{HasJoined, FetchReturns, FetchesReturn, LawOfFetches}
use Rattle.rules.proofs.ListFacts.{fold_append}

-- A fact about the phase of a row after it is replaced. A warp that has no row counts as idle.
put_phase :
    (rows : List WarpRow) (w : ℕ) (r : WarpRow) (P : Phase → Type 0) → P Idle → P r.phase
    → P (warp_row_at (set rows w r) w).phase
put_phase rows w r P none here =
    ⊎_elim
    (λ low. subst (λ (x : WarpRow). P x.phase)
    (sym (get_or-set_same rows w r (idle_row 0) low)) here)
    (λ high.
    subst (λ (x : WarpRow). P x.phase)
    (sym (get_or_past (set rows w r) w (idle_row 0) (past high))) none)
    (cases_lt w (length rows))
  where
    past : length rows ≤ w → length (set rows w r) ≤ w
    past high = omega (arith, length-set rows w r)

phase_kept :
    (rows : List WarpRow) (w : ℕ) (r : WarpRow) (v : ℕ) → (v ≡ w → ⊥)
    → (warp_row_at (set rows w r) v).phase ≡ (warp_row_at rows v).phase
phase_kept rows w r v n = ap (λ (x : WarpRow). x.phase) (get_or-set_other rows w v r (idle_row 0) n)

-- A row is replaced by one in the same phase.
phase_stays :
    (rows : List WarpRow) (w : ℕ) (r : WarpRow) → r.phase ≡ (warp_row_at rows w).phase → (v : ℕ)
    → (warp_row_at (set rows w r) v).phase ≡ (warp_row_at rows v).phase
phase_stays rows w r same v =
    ⊎_elim
    (λ e.
    subst (λ u. (warp_row_at (set rows w r) u).phase ≡ (warp_row_at rows u).phase) (sym e)
    (⊎_elim
    (λ low. ap (λ (x : WarpRow). x.phase) (get_or-set_same rows w r (idle_row 0) low) ∙ same)
    (λ high.
    ap (λ (x : WarpRow). x.phase)
    (get_or_past (set rows w r) w (idle_row 0) (past high)
    ∙ sym (get_or_past rows w (idle_row 0) high)))
    (cases_lt w (length rows))))
    (λ n. phase_kept rows w r v n) (cases_eq v w)
  where
    past : length rows ≤ w → length (set rows w r) ≤ w
    past high = omega (arith, length-set rows w r)

-- One warp's transaction is replaced, and the others stay.
current_here : (l : Ledger) (w : ℕ) (o : Option Transaction) → (with_current l w o).current w ≡ o
current_here l w o = ap (λ b. cond b o (l.current w)) (eq-eqb w w refl)

current_there :
    (l : Ledger) (w : ℕ) (o : Option Transaction) (v : ℕ) → (v ≡ w → ⊥)
    → (with_current l w o).current v ≡ l.current v
current_there l w o v n = ap (λ b. cond b o (l.current v)) (ne_eqb v w n)

-- A warp has a transaction.
abbrev Has : Option Transaction → Type 0
Has current = (tx : Transaction) × (current ≡ Some tx)

joined_here :
    (l : Ledger) (w : ℕ) (action : Transaction → Action) (tx : Transaction) → l.current w ≡ Some tx
    → (with_joined_action l w action).current w ≡ Some (with_action tx (action tx))
joined_here l w action tx mine =
    current_here l w (option_map (λ t. with_action t (action t)) (l.current w))
    ∙ ap (option_map (λ t. with_action t (action t))) mine

-- The outcomes that a request may get.
abbrev Fits : Access → Outcome → Type 0
Fits Read (Value value) = Unit {0}
Fits Read Stored = ⊥
Fits Read (OutcomeGone cause next) = Unit {0}
Fits (Write new) (Value value) = ⊥
Fits (Write new) Stored = Unit {0}
Fits (Write new) (OutcomeGone cause next) = Unit {0}

gone_fits : (access : Access) (cause : Cause) (next : ℕ) → Fits access (OutcomeGone cause next)
gone_fits Read cause next = tt
gone_fits (Write value) cause next = tt

outcome_joined :
    (l : Ledger) (w line : ℕ) (access : Access) (outcome : Outcome) → Fits access outcome
    → Has (l.current w)
    → HasJoined ((ledger_after_outcome l w line access outcome).current w)
    (settled_request w line access outcome) outcome
outcome_joined l w line Read (Value value) fits h = (
  load_source l.committed h.0 line,
  refl,
  (
    with_action h.0 (loaded (load_action line value (load_source l.committed h.0 line))),
    h.0.actions,
    joined_here l w (λ tx. loaded (load_action line value (load_source l.committed tx line))) h.0
        h.1,
    refl,
  ),
)
outcome_joined l w line Read Stored fits h = absurd fits
outcome_joined l w line Read (OutcomeGone cause next) fits h = h
outcome_joined l w line (Write new) (Value value) fits h = absurd fits
outcome_joined l w line (Write new) Stored fits h = (
  new,
  refl,
  (
    with_action h.0 (stored (log_entry line new)),
    h.0.actions,
    joined_here l w (λ tx. stored (log_entry line new)) h.0 h.1,
    refl,
  ),
)
outcome_joined l w line (Write new) (OutcomeGone cause next) fits h = h

outcome_keeps_others :
    (l : Ledger) (w line : ℕ) (access : Access) (outcome : Outcome) (v : ℕ) → (v ≡ w → ⊥)
    → (ledger_after_outcome l w line access outcome).current v ≡ l.current v
outcome_keeps_others l w line Read (Value value) v n = current_there l w _ v n
outcome_keeps_others l w line Read Stored v n = refl
outcome_keeps_others l w line Read (OutcomeGone cause next) v n = refl
outcome_keeps_others l w line (Write new) (Value value) v n = refl
outcome_keeps_others l w line (Write new) Stored v n = current_there l w _ v n
outcome_keeps_others l w line (Write new) (OutcomeGone cause next) v n = refl

-- The warp of a request that has joined has a transaction.
joined_has : (o : Option Transaction) (s : SettledRequest) (outcome : Outcome)
    → HasJoined o s outcome → Has o
joined_has o s (Value value) j = (j.2.0, j.2.2)
joined_has o s Stored j = (j.2.0, j.2.2)
joined_has o s (OutcomeGone cause next) j = j

-- The last settled request of a warp after one more is settled.
last_here :
    (settled : List SettledRequest) (s : SettledRequest)
    → last_settled_request (settled ++ s ∷ []) s.warp ≡ Some s
last_here settled s =
    fold_push (λ found (x : SettledRequest). cond (eqb x.warp s.warp) (Some x) found) None settled s
    ∙ ap (λ b. cond b (Some s) (last_settled_request settled s.warp)) (eq-eqb s.warp s.warp refl)

last_there :
    (settled : List SettledRequest) (s : SettledRequest) (v : ℕ) → (v ≡ s.warp → ⊥)
    → last_settled_request (settled ++ s ∷ []) v ≡ last_settled_request settled v
last_there settled s v n =
    fold_push (λ found (x : SettledRequest). cond (eqb x.warp v) (Some x) found) None settled s
    ∙ ap (λ b. cond b (Some s) (last_settled_request settled v)) (ne_eqb s.warp v (λ e. n (sym e)))

-- What is known of a warp whose call is not refused.
phase_not_refused :
    (a : Option Fault) (o : Option Refusal) (n : ℕ) (b : Option Fault)
    → option_or a (option_or (refusal_fault o n) b) ≡ None → o ≡ None
phase_not_refused (Some fault) o n b e = absurd (cc)
phase_not_refused None (Some why) n b e = absurd (cc)
phase_not_refused None None n b e = refl

load_open : (line : ℕ) (p : Phase) → phase_refusal p (Load line) ≡ None → p ≡ Open
load_open line Idle e = absurd (cc)
load_open line Open e = refl
load_open line Waiting e = absurd (cc)
load_open line (Settled outcome) e = absurd (cc)

store_open : (line value : ℕ) (p : Phase) → phase_refusal p (Store line value) ≡ None → p ≡ Open
store_open line value Idle e = absurd (cc)
store_open line value Open e = refl
store_open line value Waiting e = absurd (cc)
store_open line value (Settled outcome) e = absurd (cc)

-- The call of a load or a store.
abbrev op_of : Access → ℕ → Op
op_of Read line = Load line
op_of (Write value) line = Store line value

-- A warp with an access to retry waits.
waits_if :
    (p : Phase) (o : Option Access) (access : Access) → cond (is_waiting p) o None ≡ Some access
    → p ≡ Waiting
waits_if Idle o access e = absurd (cc)
waits_if Open o access e = absurd (cc)
waits_if Waiting o access e = refl
waits_if (Settled outcome) o access e = absurd (cc)

-- In the middle of a call, for a warp with an outcome to fetch: its request was settled at this
-- call, or else it was settled before and its transaction has not changed since.
record Now (current : Option Transaction) (here : Option SettledRequest) (outcome : Outcome) :
    Type 0 where
  request : SettledRequest
  settled_there : here ≡ Some request
  its_outcome : outcome ≡ request.outcome
  joined : HasJoined current request request.outcome

module _ (events : List Event) where
  record Before (w : ℕ) (current : Option Transaction) (here : Option SettledRequest)
      (outcome : Outcome) : Type 0 where
    none_here : here ≡ None
    fetch_returned : FetchReturns events w (answer_of outcome)
    unchanged : current ≡ (ledger_of events).current w

  abbrev PhaseAgrees : ℕ → Option Transaction → Option SettledRequest → Phase → Type 0
  PhaseAgrees w current here Idle = Unit {0}
  PhaseAgrees w current here Open = Has current
  PhaseAgrees w current here Waiting = Has current
  PhaseAgrees w current here (Settled outcome) = Now current here outcome
      ⊎ Before w current here outcome

  phase_agrees_at_equals :
      (w : ℕ) (o o' : Option Transaction) (s s' : Option SettledRequest) (p p' : Phase) → o' ≡ o
      → s' ≡ s → p' ≡ p
      → PhaseAgrees w o s p → PhaseAgrees w o' s' p'
  phase_agrees_at_equals w o o' s s' p p' a b c h =
      subst (λ x. PhaseAgrees w x s' p') (sym a)
      (subst (λ x. PhaseAgrees w o x p') (sym b) (subst (PhaseAgrees w o s) (sym c) h))

  -- A warp with an outcome to fetch has a transaction.
  settled_has :
      (w : ℕ) (o : Option Transaction) (s : Option SettledRequest) (outcome : Outcome)
      → PhaseAgrees w o s (Settled outcome)
      → Has o
  settled_has w o s outcome (inl now) = joined_has o now.request now.request.outcome now.joined
  settled_has w o s outcome (inr before) =
      let t = before.fetch_returned in
      let had =
      joined_has ((ledger_of (t.earlier ++ t.settling_event ∷ [])).current w) t.request
      t.request.outcome t.joined
      in
      (had.0, before.unchanged ∙ t.unchanged ∙ had.1)

  module _ {k : Kind} where
    -- This is known of every warp.
    abbrev Known : MachineState k → (ℕ → Option Transaction) → (ℕ → Option SettledRequest) → Type 0
    Known m current here = (w : ℕ) → PhaseAgrees w (current w) (here w) (warp_row_of m w).phase

    -- One warp changes.
    moves :
        (m m' : MachineState k) (current current' : ℕ → Option Transaction) (here here' : ℕ
        → Option SettledRequest) (w : ℕ)
        → Known m current here
        → ((v : ℕ) → (v ≡ w → ⊥) → (warp_row_of m' v).phase ≡ (warp_row_of m v).phase)
        → ((v : ℕ) → (v ≡ w → ⊥) → current' v ≡ current v)
        → ((v : ℕ) → (v ≡ w → ⊥) → here' v ≡ here v)
        → PhaseAgrees w (current' w) (here' w) (warp_row_of m' w).phase → Known m' current' here'
    moves m m' current current' here here' w known phases currents last mine v =
        ⊎_elim (λ e. subst (λ u. PhaseAgrees u (current' u) (here' u) (warp_row_of m' u).phase)
        (sym e) mine)
        (λ n.
        phase_agrees_at_equals v (current v) (current' v) (here v) (here' v) (warp_row_of m v).phase
        (warp_row_of m' v).phase (currents v n) (last v n) (phases v n) (known v))
        (cases_eq v w)

    -- A request is settled.
    settling_phase :
        (m : MachineState k) (w : ℕ) (outcome : Outcome) (P : Phase → Type 0) → P Idle
        → P (Settled outcome)
        → P (warp_row_of (after_settling m w outcome) w).phase
    unfolding after_settling after_withdrawal
    settling_phase m w outcome P none here =
        put_phase (set m.warp_rows w (row_in_phase (warp_row_of m w) Open)) w _ P none here

    settling_keeps_phases :
        (m : MachineState k) (w : ℕ) (outcome : Outcome) (v : ℕ) → (v ≡ w → ⊥)
        → (warp_row_of (after_settling m w outcome) v).phase ≡ (warp_row_of m v).phase
    unfolding after_settling after_withdrawal
    settling_keeps_phases m w outcome v n =
        phase_kept (set m.warp_rows w (row_in_phase (warp_row_of m w) Open)) w _ v n
        ∙ phase_kept m.warp_rows w (row_in_phase (warp_row_of m w) Open) v n

    module _ (start : Ledger) where
      -- What is known in the middle of the retries of a call.
      abbrev ledger_after_retries : AfterRetries k → Ledger
      ledger_after_retries st = fold ledger_after_settled start st.settled

      abbrev KnownIn : AfterRetries k → Type 0
      KnownIn st = Known st.machine (ledger_after_retries st).current
          (last_settled_request st.settled)

      settling_known :
          (st : AfterRetries k) (m : MachineState k) (w line : ℕ) (access : Access)
          (outcome : Outcome)
          → KnownIn st → ((v : ℕ) → (warp_row_of m v).phase ≡ (warp_row_of st.machine v).phase)
          → Has ((ledger_after_retries st).current w) → Fits access outcome
          → KnownIn
          (record {
            machine = after_settling m w outcome;
            settled = st.settled
                ++ settled_request w line access outcome ∷ [];
          })
      settling_known st m w line access outcome known same has fits =
          subst
          (λ (l : Ledger).
          Known (after_settling m w outcome) l.current
          (last_settled_request (st.settled ++ settled_request w line access outcome ∷ [])))
          (sym (fold_push ledger_after_settled start st.settled
          (settled_request w line access outcome)))
          (moves st.machine (after_settling m w outcome) (ledger_after_retries st).current
          (ledger_after_outcome (ledger_after_retries st) w line access outcome).current
          (last_settled_request st.settled)
          (last_settled_request (st.settled ++ settled_request w line access outcome ∷ [])) w known
          (λ v n. settling_keeps_phases m w outcome v n ∙ same v)
          (λ v n. outcome_keeps_others (ledger_after_retries st) w line access outcome v n)
          (λ v n. last_there st.settled (settled_request w line access outcome) v n)
          (settling_phase m w outcome
          (PhaseAgrees w
          ((ledger_after_outcome (ledger_after_retries st) w line access outcome).current w)
          (last_settled_request (st.settled ++ settled_request w line access outcome ∷ []) w)) tt
          (inl
          (record {
            request = settled_request w line access outcome;
            settled_there = last_here st.settled (settled_request w line access outcome);
            its_outcome = refl;
            joined = outcome_joined (ledger_after_retries st) w line access outcome fits has;
          }))))

      -- Serving a request changes no phase.
      served_phases :
          (m : MachineState k) (w line : ℕ) (access : Access) (v : ℕ)
          → (warp_row_of (served_on_free_line m w line access).machine v).phase ≡
          (warp_row_of m v).phase
      unfolding served_on_free_line
      served_phases m w line Read v = refl
      served_phases m w line (Write value) v = phase_stays m.warp_rows w _ refl v

      served_fits :
          (m : MachineState k) (w line : ℕ) (access : Access)
          → Fits access (served_on_free_line m w line access).outcome
      unfolding served_on_free_line
      served_fits m w line Read = tt
      served_fits m w line (Write value) = tt

      tried_known :
          (st : AfterRetries k) (w line : ℕ) (access : Access) (v : Verdict) → KnownIn st
          → Has ((ledger_after_retries st).current w) → KnownIn (after_retry st w line access v)
      unfolding after_retry
      tried_known st w line access OwnLine known has = known
      tried_known st w line access (VerdictGone cause next) known has =
          settling_known st st.machine w line access (OutcomeGone cause next) known (λ v. refl) has
          (gone_fits access cause next)
      tried_known st w line access MustWait known has = known
      tried_known st w line access GoOn known has =
          settling_known st (served_on_free_line st.machine w line access).machine w line access
          (served_on_free_line st.machine w line access).outcome known
          (served_phases st.machine w line access) has
          (served_fits st.machine w line access)

      retried_known :
          (st : AfterRetries k) (w line : ℕ) (o : Option Access)
          → pending_access st.machine w line ≡ o → KnownIn st
          → KnownIn (after_turn_with st w line o)
      unfolding after_turn_with
      retried_known st w line None e known = known
      retried_known st w line (Some access) e known =
          tried_known st w line access
          (retry_verdict access (line_state k st.machine.book line) (time_of st.machine w))
          known
          (subst (PhaseAgrees w ((ledger_after_retries st).current w)
          (last_settled_request st.settled w))
          (waits_if (warp_row_of st.machine w).phase
          (access_at (request_of st.machine.queue w) line) access e)
          (known w))

      turns_known :
          (line : ℕ) (turns : List ℕ) (st : AfterRetries k) → KnownIn st
          → KnownIn (fold (after_turn line) st turns)
      turns_known line [] st known = known
      turns_known line (w ∷ turns) st known =
          turns_known line turns (after_turn line st w)
          (retried_known st w line (pending_access st.machine w line) refl known)

      lines_known :
          (policy : Policy k) (lines : List ℕ) (st : AfterRetries k) → KnownIn st
          → KnownIn (fold (after_turns policy) st lines)
      unfolding after_turns
      lines_known policy [] st known = known
      lines_known policy (line ∷ lines) st known =
          lines_known policy lines (after_turns policy st line)
          (turns_known line (policy.turns st.machine line) st known)

      -- The end of a warp's transaction, with all retries.
      ends_known :
          (policy : Policy k) (m : MachineState k) (w stamp : ℕ) (current : ℕ → Option Transaction)
          → Known m current (λ v. None)
          → ((v : ℕ) → (v ≡ w → ⊥) → start.current v ≡ current v)
          → KnownIn (after_end policy m w stamp)
      unfolding after_end after_giving_up without_lines
      ends_known policy m w stamp current known others =
          lines_known policy (logged_lines (warp_row_of m w).log)
          (record {
            machine = without_lines m w (idle_row stamp)
                (logged_lines (warp_row_of m w).log);
            settled = [];
          })
          (moves m (without_lines m w (idle_row stamp) (logged_lines (warp_row_of m w).log)) current
          start.current
          (λ v. None) (λ v. None) w known (λ v n. phase_kept m.warp_rows w (idle_row stamp) v n)
          others
          (λ v n. refl)
          (put_phase m.warp_rows w (idle_row stamp) (PhaseAgrees w (start.current w) None) tt tt))

    module _ (policy : Policy k) (m : MachineState k) (l : Ledger)
        (known : Known m l.current (λ v. None)) (w : ℕ) where
      -- What is known after a call.
      abbrev After : Op → Step k → Type 0
      After op s =
          Known s.machine
          (fold ledger_after_settled
          (ledger_after_reply l w (warp_row_of m w).stamp op s.answer) s.settled).current
          (last_settled_request s.settled)

      -- One warp's row and transaction are replaced.
      puts_known :
          (r : WarpRow) (l' : Ledger) → ((v : ℕ) → (v ≡ w → ⊥) → l'.current v ≡ l.current v)
          → PhaseAgrees w (l'.current w) None r.phase
          → Known (with_warp_row m w r) l'.current (λ v. None)
      puts_known r l' others mine =
          moves m (with_warp_row m w r) l.current l'.current (λ v. None) (λ v. None) w known
          (λ v n. phase_kept m.warp_rows w r v n) others (λ v n. refl)
          (put_phase m.warp_rows w r (PhaseAgrees w (l'.current w) None) tt mine)

      module _ (may : (warp_row_of m w).phase ≡ Open) where
        its : Has (l.current w)
        its = subst (PhaseAgrees w (l.current w) None) may (known w)

        joins_known :
            (m' : MachineState k) (action : Transaction → Action)
            → ((v : ℕ) → (warp_row_of m' v).phase ≡ (warp_row_of m v).phase)
            → Known m' (with_joined_action l w action).current (λ v. None)
        joins_known m' action same =
            moves m m' l.current (with_joined_action l w action).current (λ v. None)
            (λ v. None) w known (λ v n. same v)
            (λ v n. current_there l w _ v n) (λ v n. refl)
            (subst (PhaseAgrees w ((with_joined_action l w action).current w) None)
            (sym (same w ∙ may))
            (with_action its.0 (action its.0), joined_here l w action its.0 its.1))

        accessed_known :
            (line : ℕ) (access : Access) (v : Verdict)
            → After (op_of access line) (step_by_verdict policy m w line access v)
        unfolding step_by_verdict served_on_free_line served_on_own_line with_request_queued
        accessed_known line Read OwnLine =
            joins_known (served_on_own_line m w line Read).machine _ (λ v. refl)
        accessed_known line (Write value) OwnLine =
            joins_known (served_on_own_line m w line (Write value)).machine _
            (λ v. phase_stays m.warp_rows w _ refl v)
        accessed_known line access (VerdictGone cause next) =
            ends_known (without_current l w) policy m w next l.current known
            (λ v n. current_there l w None v n)
        accessed_known line access MustWait =
            puts_known (row_in_phase (warp_row_of m w) Waiting) l (λ v n. refl) its
        accessed_known line Read GoOn =
            joins_known (served_on_free_line m w line Read).machine _ (λ v. refl)
        accessed_known line (Write value) GoOn =
            joins_known (served_on_free_line m w line (Write value)).machine _
            (λ v. phase_stays m.warp_rows w _ refl v)

      fetched_known : (outcome : Outcome) → Has (l.current w)
          → After Fetch (fetched_step policy m w outcome)
      unfolding fetched_step
      fetched_known (Value value) has =
          puts_known (row_in_phase (warp_row_of m w) Open) l (λ v n. refl) has
      fetched_known Stored has =
          puts_known (row_in_phase (warp_row_of m w) Open) l (λ v n. refl) has
      fetched_known (OutcomeGone cause next) has =
          ends_known (without_current l w) policy m w next l.current known
          (λ v n. current_there l w None v n)

      fetches_known :
          (p : Phase) → (warp_row_of m w).phase ≡ p → After Fetch (fetch_step policy m w p)
      fetches_known Idle e = known
      fetches_known Open e = known
      fetches_known Waiting e = known
      fetches_known (Settled outcome) e =
          fetched_known outcome
          (settled_has w (l.current w) None outcome
          (subst (PhaseAgrees w (l.current w) None) e (known w)))

      accepted_known :
          (op : Op) → phase_refusal (warp_row_of m w).phase op ≡ None
          → After op (accepted_step policy m w op)
      accepted_known Begin fine =
          puts_known (open_row (warp_row_of m w).stamp) (with_begun l w (warp_row_of m w).stamp)
          (λ v n. current_there l w _ v n)
          (record { stamp = (warp_row_of m w).stamp; warp = w; actions = [] }, current_here l w _)
      accepted_known (Load line) fine =
          accessed_known (load_open line (warp_row_of m w).phase fine) line Read
          (verdict_at policy m w line Read)
      accepted_known (Store line value) fine =
          accessed_known (store_open line value (warp_row_of m w).phase fine) line (Write value)
          (verdict_at policy m w line (Write value))
      accepted_known Commit fine =
          ends_known (with_committed l w) policy (with_log_written m w) w
          (warp_row_of m w).stamp l.current known
          (λ v n. current_there l w None v n)
      accepted_known Drop fine =
          ends_known (without_current l w) policy m w (warp_row_of m w).stamp l.current known
          (λ v n. current_there l w None v n)
      accepted_known Fetch fine = fetches_known (warp_row_of m w).phase refl

    -- A call, refused or not.
    step_known :
        (policy : Policy k) (m : MachineState k) (l : Ledger) → Known m l.current (λ v. None)
        → (call : Call)
        → Known (step policy m call).machine (ledger_after_event l (event_of policy m call)).current
        (last_settled_request (event_of policy m call).settled)
    unfolding ledger_after_event
    step_known policy m l known call = by_fault (fault_of m call) refl
      where
        by_fault :
            (o : Option Fault) → fault_of m call ≡ o
            → After policy m l known call.warp call.op (checked_step policy m call o)
        by_fault (Some fault) e = known
        by_fault None e =
            accepted_known policy m l known call.warp call.op
            (phase_not_refused _ (phase_refusal (warp_row_of m call.warp).phase call.op) _ _ e)

    -- The answer to a fetch that is not told to wait.
    fetch_answer :
        (policy : Policy k) (m : MachineState k) (w : ℕ) (outcome : Outcome) (answer : Answer)
        → (fetched_step policy m w outcome).answer ≡ Ok answer → answer ≡ answer_of outcome
    unfolding fetched_step
    fetch_answer policy m w (Value value) answer e = cc
    fetch_answer policy m w Stored answer e = cc
    fetch_answer policy m w (OutcomeGone cause next) answer e = cc

    fetch_returns :
        (policy : Policy k) (m : MachineState k) → Known m (ledger_of events).current (λ v. None)
        → (w : ℕ)
        → (answer : Answer) → (accepted_step policy m w Fetch).answer ≡ Ok answer → answer ≢ Wait
        → FetchReturns events w answer
    fetch_returns policy m known w answer = by_phase (warp_row_of m w).phase refl
      where
        by_phase :
            (p : Phase) → (warp_row_of m w).phase ≡ p → (fetch_step policy m w p).answer ≡ Ok answer
            → answer ≢ Wait → FetchReturns events w answer
        by_phase Idle e said more = absurd (more (cc))
        by_phase Open e said more = absurd (more (cc))
        by_phase Waiting e said more = absurd (more (cc))
        by_phase (Settled outcome) e said more =
            ⊎_elim (λ (now : Now ((ledger_of events).current w) None outcome). absurd
            (none now.request now.settled_there))
            (λ before.
            subst (FetchReturns events w) (sym (fetch_answer policy m w outcome answer said))
            before.fetch_returned)
            (subst (PhaseAgrees w ((ledger_of events).current w) None) e (known w))
          where
            none : (s : SettledRequest) → None ≡ Some s → ⊥
            none s e = cc

    call_returns :
        (policy : Policy k) (m : MachineState k) → Known m (ledger_of events).current (λ v. None)
        → (call : Call)
        → call.op ≡ Fetch → (answer : Answer) → (step policy m call).answer ≡ Ok answer
        → answer ≢ Wait
        → FetchReturns events call.warp answer
    call_returns policy m known call op answer = by_fault (fault_of m call)
      where
        by_fault :
            (o : Option Fault) → (checked_step policy m call o).answer ≡ Ok answer → answer ≢ Wait
            → FetchReturns events call.warp answer
        by_fault (Some fault) said more = absurd (cc)
        by_fault None said more =
            fetch_returns policy m known call.warp answer
            (ap (λ o. (accepted_step policy m call.warp o).answer) (sym op) ∙ said) more

-- From one call to the next.
settled_requests_push : (events : List Event) (e : Event)
    → settled_requests (events ++ e ∷ []) ≡ settled_requests events ++ e.settled
settled_requests_push [] e = append-nil e.settled
settled_requests_push (x ∷ events) e =
    ap (λ l. x.settled ++ l) (settled_requests_push events e)
    ∙ sym (append_assoc x.settled (settled_requests events) e.settled)

none_more :
    (events : List Event) (e : Event) (w : ℕ)
    → last_settled_request (settled_requests events) w ≡ None
    → last_settled_request e.settled w ≡ None
    → last_settled_request (settled_requests (events ++ e ∷ [])) w ≡ None
none_more events e w before here =
    ap (λ l. last_settled_request l w) (settled_requests_push events e)
    ∙ fold_append (λ found (x : SettledRequest). cond (eqb x.warp w) (Some x) found) None
    (settled_requests events) e.settled
    ∙ ap (λ o. fold (λ found (x : SettledRequest). cond (eqb x.warp w) (Some x) found) o e.settled)
    before ∙ here

phase_agrees_next :
    (events : List Event) (e : Event) (w : ℕ) (here : Option SettledRequest)
    → last_settled_request e.settled w ≡ here
    → (p : Phase) → PhaseAgrees events w ((ledger_of (events ++ e ∷ [])).current w) here p
    → PhaseAgrees (events ++ e ∷ []) w ((ledger_of (events ++ e ∷ [])).current w) None p
phase_agrees_next events e w here same Idle h = tt
phase_agrees_next events e w here same Open h = h
phase_agrees_next events e w here same Waiting h = h
phase_agrees_next events e w here same (Settled outcome) (inl now) =
    inr
    (record {
      none_here = refl;
      fetch_returned =
          record {
            earlier = events;
            settling_event = e;
            since = [];
            in_turn = refl;
            request = now.request;
            settled_there = same ∙ now.settled_there;
            none_since = refl;
            answered = ap answer_of now.its_outcome;
            joined = now.joined;
            unchanged = refl;
          };
      unchanged = refl;
    })
phase_agrees_next events e w here same (Settled outcome) (inr before) =
    let t = before.fetch_returned in
    inr
    (record {
      none_here = refl;
      fetch_returned =
          record {
            earlier = t.earlier;
            settling_event = t.settling_event;
            since = t.since ++ e ∷ [];
            in_turn =
                ap (λ l. l ++ e ∷ []) t.in_turn
                ∙ append_assoc t.earlier (t.settling_event ∷ t.since) (e ∷ []);
            request = t.request;
            settled_there = t.settled_there;
            none_since = none_more t.since e w t.none_since (same ∙ before.none_here);
            answered = t.answered;
            joined = t.joined;
            unchanged = before.unchanged ∙ t.unchanged;
          };
      unchanged = refl;
    })

-- A list with one more element is split at that element or before it.
split_last :
    {A : Type 0} (xs before after : List A) (e x : A) → xs ++ e ∷ [] ≡ before ++ x ∷ after
    → ((before ≡ xs) × (x ≡ e)) ⊎ ((rest : List A) × (xs ≡ before ++ x ∷ rest))
split_last {A = A} [] [] after e x h = inl (refl, cc)
split_last {A = A} [] (b ∷ before) after e x h = absurd (nothing before (cc))
  where
    nothing : (before : List A) → [] ≡ before ++ x ∷ after → ⊥
    nothing [] k = cc
    nothing (b ∷ before) k = cc
split_last {A = A} (y ∷ xs) [] after e x h = inr (xs, cc)
split_last {A = A} (y ∷ xs) (b ∷ before) after e x h =
    ⊎_elim (λ (p : (before ≡ xs) × (x ≡ e)). inl (cc, p.1))
    (λ (p : (rest : List A) × (xs ≡ before ++ x ∷ rest)). inr (p.0, cc))
    (split_last xs before after e x (cc))

module _ {k : Kind} (policy : Policy k) where
  record Good (r : Run k) : Type 0 where
    known : Known r.events r.machine (ledger_of r.events).current (λ w. None)
    tell : FetchesReturn r.events

  more_good : (r : Run k) (call : Call) → Good r → Good (run_with_call policy r call)
  unfolding run_with_call
  more_good r call good =
      record {
        known =
            λ w.
            phase_agrees_next r.events (event_of policy r.machine call) w _ refl
            (warp_row_of (step policy r.machine call).machine w).phase
            (subst
            (λ (l : Ledger).
            PhaseAgrees r.events w (l.current w)
            (last_settled_request (event_of policy r.machine call).settled w)
            (warp_row_of (step policy r.machine call).machine w).phase)
            (sym (fold_push ledger_after_event new_ledger r.events
            (event_of policy r.machine call)))
            (step_known r.events policy r.machine (ledger_of r.events) good.known call w));
        tell =
            λ before e after split op answer said more.
            ⊎_elim
            (λ (p : (before ≡ r.events) × (e ≡ event_of policy r.machine call)).
            last before e (p.0) (p.1) op answer said more)
            (λ (p : (rest : List Event) × (r.events ≡ before ++ e ∷ rest)).
            good.tell before e p.0 p.1 op answer said more)
            (split_last r.events before after (event_of policy r.machine call) e split);
      }
    where
      last :
          (before : List Event) (e : Event) → before ≡ r.events → e ≡ event_of policy r.machine call
          → e.call.op ≡ Fetch → (answer : Answer) → e.answer ≡ Ok answer → answer ≢ Wait
          → FetchReturns before e.call.warp answer
      last before e a b op answer said more =
          subst (λ x. FetchReturns x e.call.warp answer) (sym a)
          (subst (λ (x : Event). FetchReturns r.events x.call.warp answer) (sym b)
          (call_returns r.events policy r.machine good.known call
          (ap (λ (x : Event). x.call.op) (sym b) ∙ op) answer
          (ap (λ (x : Event). x.answer) (sym b) ∙ said) more))

  run_good : (calls : List Call) (r : Run k) → Good r → Good (fold (run_with_call policy) r calls)
  run_good [] r good = good
  run_good (call ∷ calls) r good =
      run_good calls (run_with_call policy r call) (more_good r call good)

-- A new machine.
all_idle : (stamps : List ℕ) (w : ℕ) → (warp_row_at (map idle_row stamps) w).phase ≡ Idle
all_idle [] w = refl
all_idle (s ∷ stamps) zero = refl
all_idle (s ∷ stamps) (suc w) = all_idle stamps w

first_idle : (o : Option Fault) (stamps : List ℕ) (w : ℕ)
    → (warp_row_at (first_warp_rows o stamps) w).phase ≡ Idle
first_idle None stamps w = all_idle stamps w
first_idle (Some fault) stamps w = refl

pub law_of_fetches : (k : Kind) → LawOfFetches k
law_of_fetches k policy lines book stamps calls =
    (run_good policy calls (record { machine = new_machine k lines book stamps; events = [] })
    (record {
      known = λ w. subst (PhaseAgrees [] w None None)
          (sym (first_idle (making_fault k book stamps) stamps w)) tt;
      tell = λ before e after split op answer said more. absurd (none before e after split);
    })).tell
  where
    none : (before : List Event) (e : Event) (after : List Event) → [] ≡ before ++ e ∷ after → ⊥
    none [] e after h = cc
    none (b ∷ before) e after h = cc
