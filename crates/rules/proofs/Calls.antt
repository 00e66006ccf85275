-- Every call keeps the invariant of a run, refused ones too, and so does every run of a new
-- machine.
use Rattle.std.proofs.Common.{◌≡◌, ℕ, zero, suc, ◌<◌, ◌≤◌, Bool, true, false, cond, ◌&&◌, eqb, ltb}
use Rattle.std.proofs.Common.{leb, ◌⊎◌, List, [], ◌∷◌, map, length, get_or, is_some, Some, None}
use Rattle.std.proofs.Common.{fold, Option, sym, refl, ap, ◌∙◌, subst, arith}
use Rattle.std.proofs.lemmas.List.{length-map}
use Rattle.std.proofs.lemmas.List.Sums.{fold_push}
use Rattle.std.proofs.lemmas.Bool.{both_ways, ltb-true, leb-true, eqb-true, le-ltb, and_parts}
use Rattle.std.specs.Option.{option_or}
use Rattle.protocol.specs.Faults.{fault_in_call}
use Rattle.protocol.specs.Limits.{log_limit, line_limit, warp_limit, last_stamp}
use Rattle.protocol.specs.declared.answer.Answer.TheVariants.{Gone}
use Rattle.protocol.specs.declared.answer.Cause.{Cause}
use Rattle.protocol.specs.declared.answer.Outcome.{Outcome}
use Rattle.protocol.specs.declared.answer.Outcome.TheVariants.{Value, Stored, Gone as OutcomeGone}
use Rattle.protocol.specs.declared.call.Call.{Call}
use Rattle.protocol.specs.declared.call.Op.{Op}
use Rattle.protocol.specs.declared.call.Op.TheVariants.{Begin, Load, Store, Commit, Drop, Fetch}
use Rattle.protocol.specs.declared.fault.Fault.{Fault}
use Rattle.protocol.specs.declared.fault.Refusal.{Refusal}
use Rattle.protocol.specs.declared.fault.Refusal.TheVariants.{NoSuchWarp}
use Rattle.memory.specs.Lines.{Lines}
use Rattle.book.specs.Meaning.{Kind, Keeps, is_reserved}
use Rattle.rules.specs.declared.state.Access.{Access}
use Rattle.rules.specs.declared.state.Access.TheVariants.{Read, Write}
use Rattle.rules.specs.declared.state.Phase.{Phase}
use Rattle.rules.specs.declared.state.Phase.TheVariants.{Idle, Open, Waiting, Settled}
use Rattle.rules.specs.declared.state.Request.{Request}
use Rattle.rules.specs.Lists.{contains_number}
use Rattle.rules.specs.State.{MachineState, idle_row, is_idle, is_waiting, warp_row_of, time_of}
use Rattle.rules.specs.declared.verdict.Verdict.{Verdict}
use Rattle.rules.specs.declared.verdict.Verdict.TheVariants.{OwnLine, Gone as VerdictGone, MustWait}
use Rattle.rules.specs.declared.verdict.Verdict.TheVariants.{GoOn}
use Rattle.rules.specs.Access.{line_state, access_verdict}
use Rattle.rules.specs.Queue.{Policy, request_of, is_full}
use Rattle.rules.specs.Refusals.{phase_refusal, refusal_fault, fault_unless, has_line, number_fault}
use Rattle.rules.specs.Refusals.{fault_of}
use Rattle.rules.specs.Serving.{served_on_free_line, served_on_own_line}
use Rattle.rules.specs.Steps.{ended_step, Step, with_log_written, step_by_verdict, access_step}
use Rattle.rules.specs.Steps.{verdict_at, fetched_step, fetch_step, accepted_step}
use Rattle.rules.specs.Steps.{checked_step, step}
use Rattle.rules.specs.Runs.{Run, event_of, run_with_call}
use Rattle.rules.specs.Ending.{after_end}
use Rattle.rules.specs.Making.{making_fault, first_warp_rows, new_machine}
use Rattle.rules.specs.Transactions.{Transaction, is_written, transaction_named}
use Rattle.rules.specs.Ledger.{without_current, with_committed, Ledger, ledger_after_settled}
use Rattle.rules.specs.Ledger.{ledger_after_reply, ledger_after_event, new_ledger, ledger_of}
use Rattle.rules.proofs.Verdicts.{VerdictMeans, decided_verdict_means, verdict_with_room_means}
use Rattle.rules.proofs.Invariant.{Invariant}
use Rattle.rules.proofs.OneWarp.{Room, serving_keeps, own_serving_keeps, waiting_keeps, phase_keeps}
use Rattle.rules.proofs.OneWarp.{ends_keep}
use Rattle.rules.proofs.OneWarp.{commits_keep, begin_keeps}
use Rattle.rules.proofs.Retries.{has_transaction, ends_keeps}

-- What a call that is not refused says of its warp and its numbers.
neither_fault : (a b : Option Fault) → option_or a b ≡ None → (a ≡ None) × (b ≡ None)
neither_fault None b e = (refl, e)
neither_fault (Some f) b e = let z : ◌≡◌ {A = ℕ} 0 1 = cc in absurd (omega arith)

test_holds : (t : Bool) (why : Refusal) (n : ℕ) → fault_unless t why n ≡ None → t ≡ true
test_holds true why n e = refl
test_holds false why n e = let z : ◌≡◌ {A = ℕ} 0 1 = cc in absurd (omega arith)

no_refusal : (o : Option Refusal) (n : ℕ) → refusal_fault o n ≡ None → o ≡ None
no_refusal None n e = refl
no_refusal (Some why) n e = let z : ◌≡◌ {A = ℕ} 0 1 = cc in absurd (omega arith)

refused : {A : Type 0} {R : Type 0} (why : R) → Some why ≡ None → A
refused why e = let z : ◌≡◌ {A = ℕ} 0 1 = cc in absurd (omega arith)

begin_idle : (p : Phase) → phase_refusal p Begin ≡ None → is_idle p ≡ true
begin_idle Idle e = refl
begin_idle Open e = refused _ e
begin_idle Waiting e = refused _ e
begin_idle (Settled outcome) e = refused _ e

-- A warp whose transaction can go on.
abbrev GoesOn : Phase → Type 0
GoesOn p = (is_idle p ≡ false) × (is_waiting p ≡ false)

load_open : (line : ℕ) (p : Phase) → phase_refusal p (Load line) ≡ None → GoesOn p
load_open line Idle e = refused _ e
load_open line Open e = (refl, refl)
load_open line Waiting e = refused _ e
load_open line (Settled outcome) e = refused _ e

store_open : (line v : ℕ) (p : Phase) → phase_refusal p (Store line v) ≡ None → GoesOn p
store_open line v Idle e = refused _ e
store_open line v Open e = (refl, refl)
store_open line v Waiting e = refused _ e
store_open line v (Settled outcome) e = refused _ e

commit_open : (p : Phase) → phase_refusal p Commit ≡ None → GoesOn p
commit_open Idle e = refused _ e
commit_open Open e = (refl, refl)
commit_open Waiting e = refused _ e
commit_open (Settled outcome) e = refused _ e

drop_open : (p : Phase) → phase_refusal p Drop ≡ None → GoesOn p
drop_open Idle e = refused _ e
drop_open Open e = (refl, refl)
drop_open Waiting e = refused _ e
drop_open (Settled outcome) e = refused _ e

-- The call of a load or a store.
abbrev op_of : Access → ℕ → Op
op_of Read line = Load line
op_of (Write value) line = Store line value

module _ (k : Kind) (first : Lines) (keeps : Keeps k) (policy : Policy k) (E₀ : Type 0)
    (covers : (m : MachineState k) (w : ℕ) (r : Request) → request_of m.queue w ≡ Some r
    → E₀ ⊎ (contains_number w (policy.turns m r.line) ≡ true))
  where
    abbrev E : ℕ → ℕ → Type 0
    E v n = E₀

    module _ (m : MachineState k) (l : Ledger) (I : Invariant k first E m l) (w : ℕ) where
      -- What a call leaves, and the ledger after it.
      abbrev Kept : Op → Step k → Type 0
      Kept op s =
          Invariant k first E s.machine
          (fold ledger_after_settled
          (ledger_after_reply l w (warp_row_of m w).stamp op s.answer) s.settled)

      module _
          (tx : Transaction) (mine : l.current w ≡ Some tx)
          (calm : is_waiting (warp_row_of m w).phase ≡ false)
        where
          gone_keeps :
              (op : Op) (cause : Cause) (next : ℕ)
              → Kept op (ended_step (after_end policy m w next) (Gone cause next))
          gone_keeps op cause next =
              ends_keeps k first keeps (without_current l w) policy E₀ covers m w next
              (ends_keep k first keeps E m l I w tx mine next calm)

          accessed_keeps :
              (line : ℕ) → line < line_limit → is_some (first line) ≡ true
              → (access : Access) (v : Verdict)
              → Room access (warp_row_of m w)
              → VerdictMeans (k.owner m.book line ≡ Some w) access (line_state k m.book line)
              (time_of m w) v
              → Kept (op_of access line) (step_by_verdict policy m w line access v)
          unfolding step_by_verdict served_on_free_line served_on_own_line
          accessed_keeps line low there Read OwnLine room owned =
              own_serving_keeps k first keeps E m l I w tx mine line low there Read room owned
          accessed_keeps line low there (Write value) OwnLine room owned =
              own_serving_keeps k first keeps E m l I w tx mine line low there
              (Write value) room owned
          accessed_keeps line low there access (VerdictGone cause next) room u =
              gone_keeps (op_of access line) cause next
          accessed_keeps line low there access MustWait room stall =
              waiting_keeps k first keeps E m l I w tx mine line low there access calm stall
          accessed_keeps line low there Read GoOn room go =
              serving_keeps k first keeps E m l I w tx mine line low there Read go
          accessed_keeps line low there (Write value) GoOn room go =
              serving_keeps k first keeps E m l I w tx mine line low there (Write value) go

          accesses_keeps :
              (line : ℕ) → has_line m line ≡ true → (access : Access)
              → Room access (warp_row_of m w)
              → Kept (op_of access line) (access_step policy m w line access)
          accesses_keeps line h access room =
              let p = and_parts (ltb line line_limit) (is_some (m.lines line)) h in
              accessed_keeps line (ltb-true line line_limit p.0)
              (sym (I.history.core.same_lines line) ∙ p.1) access
              (verdict_at policy m w line access) room
              (verdict_with_room_means (k.owner m.book line ≡ Some w) access
              (line_state k m.book line) (time_of m w)
              (is_full policy.line_room policy.queue_room m.queue line) (warp_row_of m w).stamp
              (access_verdict access (line_state k m.book line) (time_of m w))
              (decided_verdict_means access (line_state k m.book line) (time_of m w)))

          fetched_keeps : (outcome : Outcome) → Kept Fetch (fetched_step policy m w outcome)
          unfolding fetched_step
          fetched_keeps (Value v) = phase_keeps k first keeps E m l I w tx mine Open refl refl calm
          fetched_keeps Stored = phase_keeps k first keeps E m l I w tx mine Open refl refl calm
          fetched_keeps (OutcomeGone cause next) = gone_keeps Fetch cause next

          commit_keeps : Kept Commit (accepted_step policy m w Commit)
          commit_keeps =
              ends_keeps k first keeps (with_committed l w) policy E₀ covers
              (with_log_written m w) w
              (warp_row_of m w).stamp
              (commits_keep k first keeps E m l I w tx mine (warp_row_of m w).stamp calm)

          drop_keeps : Kept Drop (accepted_step policy m w Drop)
          drop_keeps =
              ends_keeps k first keeps (without_current l w) policy E₀ covers m w
              (warp_row_of m w).stamp
              (ends_keep k first keeps E m l I w tx mine (warp_row_of m w).stamp calm)

      its : is_idle (warp_row_of m w).phase ≡ false → (tx : Transaction) × (l.current w ≡ Some tx)
      its e = has_transaction (warp_row_of m w) (l.current w) (I.warp_rows w) e

      fetches_keeps :
          (p : Phase) → (warp_row_of m w).phase ≡ p → phase_refusal p Fetch ≡ None
          → Kept Fetch (fetch_step policy m w p)
      fetches_keeps Idle e r = I
      fetches_keeps Open e r = I
      fetches_keeps Waiting e r = I
      fetches_keeps (Settled outcome) e r =
          let t = its (ap is_idle e) in fetched_keeps t.0 t.1 (ap is_waiting e) outcome

      accepted_keeps :
          (op : Op) → w < length m.warp_rows → phase_refusal (warp_row_of m w).phase op ≡ None
          → number_fault m w op ≡ None → Kept op (accepted_step policy m w op)
      accepted_keeps Begin low phase number =
          begin_keeps k first keeps E m l I w low (begin_idle (warp_row_of m w).phase phase)
          (leb-true (warp_row_of m w).stamp last_stamp
          (test_holds (leb (warp_row_of m w).stamp last_stamp) _ _ number))
      accepted_keeps (Load line) low phase number =
          let o = load_open line (warp_row_of m w).phase phase in
          let t = its o.0 in
          accesses_keeps t.0 t.1 o.1 line (test_holds (has_line m line) _ _ number) Read tt
      accepted_keeps (Store line v) low phase number =
          let o = store_open line v (warp_row_of m w).phase phase in
          let t = its o.0 in
          let n = neither_fault (fault_unless (has_line m line) _ _) _ number in
          accesses_keeps t.0 t.1 o.1 line (test_holds (has_line m line) _ _ n.0) (Write v)
          (ltb-true (length (warp_row_of m w).log) log_limit
          (test_holds (ltb (length (warp_row_of m w).log) log_limit) _ _ n.1))
      accepted_keeps Commit low phase number =
          let o = commit_open (warp_row_of m w).phase phase in
          let t = its o.0 in
          commit_keeps t.0 t.1 o.1
      accepted_keeps Drop low phase number =
          let o = drop_open (warp_row_of m w).phase phase in
          let t = its o.0 in
          drop_keeps t.0 t.1 o.1
      accepted_keeps Fetch low phase number = fetches_keeps (warp_row_of m w).phase refl phase

    -- A call, refused or not.
    pub step_keeps :
        (m : MachineState k) (l : Ledger) → Invariant k first E m l → (call : Call)
        → Invariant k first E (step policy m call).machine
        (ledger_after_event l (event_of policy m call))
    unfolding ledger_after_event
    step_keeps m l I call = by_fault (fault_of m call) refl
      where
        by_fault :
            (o : Option Fault) → fault_of m call ≡ o
            → Invariant k first E (checked_step policy m call o).machine
            (fold ledger_after_settled
            (ledger_after_reply l call.warp (warp_row_of m call.warp).stamp call.op
            (checked_step policy m call o).answer)
            (checked_step policy m call o).settled)
        by_fault (Some fault) e = I
        by_fault None e =
            let a = neither_fault (fault_unless (ltb call.warp (length m.warp_rows)) _ _) _ e in
            let b = neither_fault
            (refusal_fault (phase_refusal (warp_row_of m call.warp).phase call.op) call.warp) _
            a.1 in
            accepted_keeps m l I call.warp call.op
            (ltb-true call.warp (length m.warp_rows)
            (test_holds (ltb call.warp (length m.warp_rows)) _ _ a.0))
            (no_refusal (phase_refusal (warp_row_of m call.warp).phase call.op) call.warp b.0) b.1

    -- A run.
    pub run_keeps :
        (calls : List Call) (r : Run k) → Invariant k first E r.machine (ledger_of r.events)
        → Invariant k first E (fold (run_with_call policy) r calls).machine
        (ledger_of (fold (run_with_call policy) r calls).events)
    unfolding run_with_call
    run_keeps [] r I = I
    run_keeps (call ∷ calls) r I =
        run_keeps calls (run_with_call policy r call)
        (subst (Invariant k first E (step policy r.machine call).machine)
        (sym (fold_push ledger_after_event new_ledger r.events (event_of policy r.machine call)))
        (step_keeps r.machine (ledger_of r.events) I call))

-- A new machine.

-- A new book has no owner.
new_unowned :
    (k : Kind) (keeps : Keeps k) (s : k.State) → k.Good s → k.latest s ≡ 0 → (line : ℕ)
    → line < line_limit
    → k.owner s line ≡ None
new_unowned k keeps s good zero_latest line low =
    (keeps.tells s good line low).ownerless (free (is_reserved k s line) refl)
  where
    free : (b : Bool) → is_reserved k s line ≡ b → b ≡ false
    free true e =
        let t = keeps.tells s good line low in
        let a = t.stamped e in
        let b = t.stamp_bound in
        absurd (omega arith)
    free false e = refl

all_idle : (stamps : List ℕ) (w : ℕ) → (get_or (map idle_row stamps) w (idle_row 0)).phase ≡ Idle
all_idle [] w = refl
all_idle (s ∷ stamps) zero = refl
all_idle (s ∷ stamps) (suc w) = all_idle stamps w

pub no_writer : (line i : ℕ) → is_written (transaction_named [] i).actions line ≡ true → ⊥
no_writer line i e = both_ways false refl e

pub new_keeps :
    (k : Kind) (keeps : Keeps k) (E₀ : Type 0) (lines : Lines) (s : k.State) → k.Good s
    → (stamps : List ℕ)
    → making_fault k s stamps ≡ None
    → Invariant k lines (λ v n. E₀) (new_machine k lines s stamps) new_ledger
new_keeps k keeps E₀ lines s good stamps e =
    let a = neither_fault
    (fault_unless (ltb 0 (length stamps) && leb (length stamps) warp_limit) _ _) _ e in
    let b =
    and_parts (ltb 0 (length stamps)) (leb (length stamps) warp_limit)
    (test_holds (ltb 0 (length stamps) && leb (length stamps) warp_limit) _ _ a.0)
    in
    let c = neither_fault _ (fault_unless (eqb (k.latest s) 0) _ _) a.1 in
    let new : k.latest s ≡ 0 = eqb-true (k.latest s) 0 (test_holds (eqb (k.latest s) 0) _ _ c.1) in
    let few : length stamps ≤ 32 = leb-true (length stamps) warp_limit b.1 in
    subst
    (λ o.
    Invariant k lines (λ v n. E₀)
    (record { lines = lines; book = s; warp_rows = first_warp_rows o stamps; queue = [] })
    new_ledger)
    (sym e)
    (record {
      good = good;
      history =
          record {
            core =
                record {
                  sorted = λ line i j l p q. absurd (no_writer line i p);
                  warps = λ i l. absurd (omega arith);
                  line_low = λ line i p. absurd (no_writer line i p);
                  there = λ line i p. absurd (no_writer line i p);
                  passes = λ line i p. absurd (no_writer line i p);
                  last = λ line. refl;
                  same_lines = λ line. refl;
                  holder = λ h line t p. let z : ◌≡◌ {A = ℕ} 0 1 = cc in absurd (omega arith);
                  owner_holds =
                      λ line h low p.
                      let q = new_unowned k keeps s good new line low in
                      let z : ◌≡◌ {A = ℕ} 0 1 = cc in
                      absurd (omega arith);
                };
            past = λ i l. absurd (omega arith);
            now = λ h tx p. let z : ◌≡◌ {A = ℕ} 0 1 = cc in absurd (omega arith);
            here = λ h tx p. let z : ◌≡◌ {A = ℕ} 0 1 = cc in absurd (omega arith);
          };
      warp_rows = λ w. ap is_idle (all_idle stamps w);
      size = let q = length-map stamps idle_row in omega arith;
      waiters = λ w p. absurd (both_ways false refl (sym (ap is_waiting (all_idle stamps w)) ∙ p));
      counts = λ h tx p line x. let z : ◌≡◌ {A = ℕ} 0 1 = cc in absurd (omega arith);
      quiet = λ w p. refl;
    })

-- A refused call changes neither the machine nor the ledger.
pub refusal_changes_nothing :
    (k : Kind) (policy : Policy k) (m : MachineState k) (l : Ledger) (call : Call) (f : Fault)
    → fault_of m call ≡ Some f
    → ((step policy m call).machine ≡ m) × (ledger_after_event l (event_of policy m call) ≡ l)
unfolding ledger_after_event
refusal_changes_nothing k policy m l call f e = (
  ap (λ o. (checked_step policy m call o).machine) e,
  ap
      (λ o.
      fold ledger_after_settled
      (ledger_after_reply l call.warp (warp_row_of m call.warp).stamp call.op
      (checked_step policy m call o).answer)
      (checked_step policy m call o).settled)
      e,
)

-- A machine that was refused when it was made has no warps, and no call changes it.
no_warps_refuse :
    (k : Kind) (m : MachineState k) (call : Call) → m.warp_rows ≡ []
    → (f : Fault) × (fault_of m call ≡ Some f)
no_warps_refuse k m call none = (
  fault_in_call NoSuchWarp call.warp,
  ap
      (λ b.
      option_or (cond b None (Some (fault_in_call NoSuchWarp call.warp)))
      (option_or (refusal_fault (phase_refusal (warp_row_of m call.warp).phase call.op) call.warp)
      (number_fault m call.warp call.op)))
      (le-ltb call.warp (length m.warp_rows)
      (let z : length m.warp_rows ≡ 0 = ap length none in omega arith)),
)

pub refused_stays :
    (k : Kind) (policy : Policy k) (calls : List Call) (r : Run k) → r.machine.warp_rows ≡ []
    → ledger_of r.events ≡ new_ledger
    → ((fold (run_with_call policy) r calls).machine ≡ r.machine)
    × (ledger_of (fold (run_with_call policy) r calls).events ≡ new_ledger)
unfolding run_with_call
refused_stays k policy [] r none e = (refl, e)
refused_stays k policy (call ∷ calls) r none e =
    let f = no_warps_refuse k r.machine call none in
    let kept = refusal_changes_nothing k policy r.machine (ledger_of r.events) call f.0 f.1 in
    let rest =
    refused_stays k policy calls (run_with_call policy r call)
    (ap (λ (m : MachineState k). m.warp_rows) kept.0 ∙ none)
    (fold_push ledger_after_event new_ledger r.events (event_of policy r.machine call) ∙ kept.1 ∙ e)
    in
    (rest.0 ∙ kept.0, rest.1)
