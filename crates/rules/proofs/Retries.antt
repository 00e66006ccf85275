-- Retries keep the invariant of a run, in any order, and no waiting warp stays exempt if the order
-- leaves out no waiting request.
use Rattle.std.proofs.Common.{◌≡◌, ℕ, ◌<◌, Bool, true, false, cond, eqb, ◌⊎◌, List, [], ◌∷◌, ◌++◌}
use Rattle.std.proofs.Common.{is_some, Some, None, fold, Option, sym, refl, ap, ◌∙◌, subst, inl}
use Rattle.std.proofs.Common.{inr, ⊎_elim, arith}
use Rattle.std.proofs.lemmas.List.Sums.{fold_push}
use Rattle.std.proofs.lemmas.Bool.{both_ways, eqb-true, eq-eqb, or_cases}
use Rattle.std.specs.Option.{option_map}
use Rattle.protocol.specs.Limits.{line_limit}
use Rattle.protocol.specs.declared.answer.Outcome.TheVariants.{Gone as OutcomeGone}
use Rattle.memory.specs.Lines.{Lines}
use Rattle.book.specs.Meaning.{Kind, Keeps}
use Rattle.rules.specs.declared.state.Access.{Access}
use Rattle.rules.specs.declared.state.Access.TheVariants.{Read, Write}
use Rattle.rules.specs.declared.state.Request.{Request}
use Rattle.rules.specs.Lists.{contains_number}
use Rattle.rules.specs.Logs.{log_entry, logged_lines}
use Rattle.rules.specs.State.{WarpRow, MachineState, SettledRequest, idle_row, is_idle, is_waiting}
use Rattle.rules.specs.State.{warp_row_of, time_of}
use Rattle.rules.specs.declared.verdict.Verdict.{Verdict}
use Rattle.rules.specs.declared.verdict.Verdict.TheVariants.{OwnLine, Gone as VerdictGone, MustWait}
use Rattle.rules.specs.declared.verdict.Verdict.TheVariants.{GoOn}
use Rattle.rules.specs.Access.{line_state, retry_verdict}
use Rattle.rules.specs.Queue.{Policy, request_of, access_at, pending_access}
use Rattle.rules.specs.Serving.{memory_value, served_on_free_line}
use Rattle.rules.specs.Ending.{AfterRetries, after_settling, settled_request, after_retry}
use Rattle.rules.specs.Ending.{after_turn_with, after_turn, after_turns, without_lines}
use Rattle.rules.specs.Ending.{after_giving_up, after_end}
use Rattle.rules.specs.Transactions.{Transaction, loaded, stored, load_action}
use Rattle.rules.specs.Ledger.{Ledger, with_action, load_source, ledger_after_settled}
use Rattle.rules.specs.Ledger.{ledger_after_outcome}
use Rattle.rules.proofs.Verdicts.{VerdictMeans, retried_verdict_means}
use Rattle.rules.proofs.Logs.{waiting_busy}
use Rattle.rules.proofs.Invariant.{Matches, Blocked, Waiter, Invariant, exempt, current_mine}
use Rattle.rules.proofs.OneWarp.{serving_keeps, settling_keeps, stalled}

-- A row that is not idle has a transaction.
pub has_transaction :
    (warp_row : WarpRow) (o : Option Transaction) → Matches warp_row o
    → is_idle warp_row.phase ≡ false
    → (tx : Transaction) × (o ≡ Some tx)
has_transaction warp_row None p e = absurd (both_ways (is_idle warp_row.phase) e p)
has_transaction warp_row (Some tx) p e = (tx, refl)

module _ {k : Kind} (m : MachineState k) (w line : ℕ) where
  -- A warp has a request to retry at a line if it waits there.
  pub record TriedAt : Type 0 where
    pub waiting : is_waiting (warp_row_of m w).phase ≡ true
    pub request : Request
    pub requested : request_of m.queue w ≡ Some request
    pub at_line : request.line ≡ line

  pending_some : (access : Access) → pending_access m w line ≡ Some access → TriedAt
  pending_some access e =
      step (is_waiting (warp_row_of m w).phase) refl (request_of m.queue w) refl e
    where
      at :
          (r : Request) (b : Bool) → eqb r.line line ≡ b → cond b (Some r.access) None ≡ Some access
          → r.line ≡ line
      at r true p q = eqb-true r.line line p
      at r false p q = let z : ◌≡◌ {A = ℕ} 0 1 = cc in absurd (omega arith)

      step :
          (b : Bool) → is_waiting (warp_row_of m w).phase ≡ b
          → (o : Option Request) → request_of m.queue w ≡ o
          → cond b (access_at o line) None ≡ Some access
          → TriedAt
      step true p (Some r) q h =
          record {
            waiting = p;
            request = r;
            requested = q;
            at_line = at r
                (eqb r.line line) refl h;
          }
      step true p None q h = let z : ◌≡◌ {A = ℕ} 0 1 = cc in absurd (omega arith)
      step false p o q h = let z : ◌≡◌ {A = ℕ} 0 1 = cc in absurd (omega arith)

  pending_none :
      pending_access m w line ≡ None → is_waiting (warp_row_of m w).phase ≡ true → (r : Request)
      → request_of m.queue w ≡ Some r → r.line ≡ line → ⊥
  pending_none e p r q at =
      let a : pending_access m w line ≡ Some r.access =
      ap (λ b. cond b (access_at (request_of m.queue w) line) None) p
      ∙ ap (λ o. access_at o line) q
      ∙ ap (λ b. cond b (Some r.access) None) (eq-eqb r.line line at)
      in
      let z : ◌≡◌ {A = ℕ} 0 1 = cc in
      omega arith

module _ (k : Kind) (first : Lines) (keeps : Keeps k) (start : Ledger) where
  -- The ledger after some requests are settled.
  abbrev pub ledger_after_retries : AfterRetries k → Ledger
  ledger_after_retries st = fold ledger_after_settled start st.settled

  one_more :
      (st : AfterRetries k) (s : SettledRequest)
      → fold ledger_after_settled start (st.settled ++ s ∷ []) ≡ ledger_after_settled
      (ledger_after_retries st) s
  one_more st s = fold_push ledger_after_settled start st.settled s

  -- After a served request its warp still has a transaction.
  served_current :
      (m : MachineState k) (l : Ledger) (w line : ℕ) (access : Access) (tx : Transaction)
      → l.current w ≡ Some tx
      → (t : Transaction)
      × ((ledger_after_outcome l w line access
      (served_on_free_line m w line access).outcome).current w ≡ Some t)
  unfolding served_on_free_line
  served_current m l w line Read tx mine = (
    with_action tx
        (loaded (load_action line (memory_value m line) (load_source l.committed tx line))),
    current_mine k first l w
        (option_map (λ t.
        with_action t
        (loaded (load_action line (memory_value m line) (load_source l.committed t line))))
        (l.current w))
        ∙ ap
        (option_map (λ t.
        with_action t
        (loaded (load_action line (memory_value m line) (load_source l.committed t line)))))
        mine,
  )
  served_current m l w line (Write value) tx mine = (
    with_action tx (stored (log_entry line value)),
    current_mine k first l w
        (option_map (λ t. with_action t (stored (log_entry line value))) (l.current w))
        ∙ ap (option_map (λ t. with_action t (stored (log_entry line value)))) mine,
  )

  module _ (E E' : ℕ → ℕ → Type 0) (st : AfterRetries k) (w line : ℕ)
      (I : Invariant k first E st.machine (ledger_after_retries st))
      (drop : (v n : ℕ) → E v n → E' v n ⊎ ((v ≡ w) × (n ≡ line)))
    where
      others : (v n : ℕ) → (v ≡ w → ⊥) → E v n → E' v n
      others v n apart e = ⊎_elim (λ x. x) (λ (p : (v ≡ w) × (n ≡ line)). absurd (apart p.0))
          (drop v n e)

      module _ (at : TriedAt st.machine w line) where
        waiter : Waiter k first E st.machine (ledger_after_retries st) w
        waiter = I.waiters w at.waiting

        same_line : waiter.request.line ≡ line
        same_line =
            let a = waiter.requested in
            let b = at.requested in
            let one : waiter.request ≡ at.request = cc in
            ap (λ (r : Request). r.line) one ∙ at.at_line

        low : line < line_limit
        low = let a = waiter.line_low in subst (λ n. n < line_limit) same_line a

        there : is_some (first line) ≡ true
        there = subst (λ n. is_some (first n) ≡ true) same_line waiter.there

        its : (tx : Transaction) × ((ledger_after_retries st).current w ≡ Some tx)
        its =
            has_transaction (warp_row_of st.machine w) ((ledger_after_retries st).current w)
            (I.warp_rows w)
            (waiting_busy (warp_row_of st.machine w).phase at.waiting)

        retry_keeps :
            (access : Access) (v : Verdict)
            → VerdictMeans ⊥ access (line_state k st.machine.book line) (time_of st.machine w) v
            → Invariant k first E' (after_retry st w line access v).machine
            (ledger_after_retries (after_retry st w line access v))
        unfolding after_retry
        retry_keeps access OwnLine bad = absurd bad
        retry_keeps access (VerdictGone cause next) u =
            subst (Invariant k first E' (after_settling st.machine w (OutcomeGone cause next)))
            (sym (one_more st (settled_request w line access (OutcomeGone cause next))
            ∙ lost_joins_nothing access))
            (settling_keeps k first keeps E st.machine (ledger_after_retries st) I w its.0 its.1 E'
            (OutcomeGone cause next) others)
          where
            lost_joins_nothing : (a : Access)
                → ledger_after_outcome (ledger_after_retries st) w line a
                (OutcomeGone cause next) ≡ ledger_after_retries st
            lost_joins_nothing Read = refl
            lost_joins_nothing (Write value) = refl
        retry_keeps access MustWait stall =
            exempt k first E E' st.machine (ledger_after_retries st) I
            (λ v r p q e. keep v r q (drop v r.line e))
          where
            keep :
                (v : ℕ) (r : Request) → request_of st.machine.queue v ≡ Some r
                → E' v r.line ⊎ ((v ≡ w) × (r.line ≡ line))
                → E' v r.line
                ⊎ Blocked (ledger_after_retries st) r.line (warp_row_of st.machine v).stamp
            keep v r q (inl e) = inl e
            keep v r q (inr p) =
                inr
                (subst (λ u. Blocked (ledger_after_retries st) r.line
                (warp_row_of st.machine u).stamp) (sym p.0)
                (subst (λ n. Blocked (ledger_after_retries st) n (warp_row_of st.machine w).stamp)
                (sym p.1)
                (stalled k first keeps E st.machine
                (ledger_after_retries st) I w its.0 its.1 line low there stall)))
        retry_keeps access GoOn go =
            let served =
            serving_keeps k first keeps E st.machine
            (ledger_after_retries st) I w its.0 its.1 line low there access go
            in
            let its_now =
            served_current st.machine (ledger_after_retries st) w line access its.0 its.1 in
            subst
            (Invariant k first E'
            (after_settling (served_on_free_line st.machine w line access).machine w
            (served_on_free_line st.machine w line access).outcome))
            (sym (one_more st
            (settled_request w line access
            (served_on_free_line st.machine w line access).outcome)))
            (settling_keeps k first keeps E (served_on_free_line st.machine w line access).machine
            (ledger_after_outcome (ledger_after_retries st) w line access
            (served_on_free_line st.machine w line access).outcome) served w its_now.0
            its_now.1 E' (served_on_free_line st.machine w line access).outcome others)

      turn_with_keeps :
          (o : Option Access) → pending_access st.machine w line ≡ o
          → Invariant k first E' (after_turn_with st w line o).machine
          (ledger_after_retries (after_turn_with st w line o))
      unfolding after_turn_with
      turn_with_keeps None e =
          exempt k first E E' st.machine (ledger_after_retries st) I
          (λ v r p q x. keep v r p q (drop v r.line x))
        where
          keep :
              (v : ℕ) (r : Request) → is_waiting (warp_row_of st.machine v).phase ≡ true
              → request_of st.machine.queue v ≡ Some r
              → E' v r.line ⊎ ((v ≡ w) × (r.line ≡ line))
              → E' v r.line
              ⊎ Blocked (ledger_after_retries st) r.line (warp_row_of st.machine v).stamp
          keep v r p q (inl x) = inl x
          keep v r p q (inr x) =
              absurd
              (pending_none st.machine w line e
              (subst (λ u. is_waiting (warp_row_of st.machine u).phase ≡ true) x.0 p) r
              (subst (λ u. request_of st.machine.queue u ≡ Some r) x.0 q) x.1)
      turn_with_keeps (Some access) e =
          retry_keeps (pending_some st.machine w line access e) access
          (retry_verdict access (line_state k st.machine.book line) (time_of st.machine w))
          (retried_verdict_means ⊥ access (line_state k st.machine.book line)
          (time_of st.machine w))

      pub turn_keeps :
          Invariant k first E' (after_turn line st w).machine
          (ledger_after_retries (after_turn line st w))
      turn_keeps = turn_with_keeps (pending_access st.machine w line) refl

  module _ (policy : Policy k) (E₀ : Type 0)
      (covers : (m : MachineState k) (w : ℕ) (r : Request) → request_of m.queue w ≡ Some r
      → E₀ ⊎ (contains_number w (policy.turns m r.line) ≡ true))
    where
      -- Exempt: warps still to be retried at this line, and requests at the lines still to come.
      abbrev StillToRetry : ℕ → List ℕ → List ℕ → ℕ → ℕ → Type 0
      StillToRetry line turns lines v n = (E₀ ⊎ (contains_number n lines ≡ true))
          ⊎ ((n ≡ line) × (contains_number v turns ≡ true))

      turns_keep :
          (line : ℕ) (lines turns : List ℕ) (st : AfterRetries k)
          → Invariant k first (StillToRetry line turns lines) st.machine (ledger_after_retries st)
          → Invariant k first (StillToRetry line [] lines) (fold (after_turn line) st turns).machine
          (ledger_after_retries (fold (after_turn line) st turns))
      turns_keep line lines [] st I = I
      turns_keep line lines (t ∷ turns) st I =
          turns_keep line lines turns (after_turn line st t)
          (turn_keeps (StillToRetry line (t ∷ turns) lines)
          (StillToRetry line turns lines) st t line I (λ v n e. next v n e))
        where
          next :
              (v n : ℕ) → StillToRetry line (t ∷ turns) lines v n
              → StillToRetry line turns lines v n ⊎ ((v ≡ t) × (n ≡ line))
          next v n (inl e) = inl (inl e)
          next v n (inr p) =
              ⊎_elim (λ e. inr (sym (eqb-true t v e), p.0)) (λ h. inl (inr (p.0, h)))
              (or_cases (eqb t v) (contains_number v turns) p.1)

      turns_at_line_keep :
          (line : ℕ) (lines : List ℕ) (st : AfterRetries k)
          → Invariant k first (λ v n. E₀ ⊎ (contains_number n (line ∷ lines) ≡ true)) st.machine
          (ledger_after_retries st)
          → Invariant k first (λ v n. E₀ ⊎ (contains_number n lines ≡ true))
          (after_turns policy st line).machine
          (ledger_after_retries (after_turns policy st line))
      unfolding after_turns
      turns_at_line_keep line lines st I =
          exempt k first (StillToRetry line [] lines) (λ v n. E₀ ⊎ (contains_number n lines ≡ true))
          (fold (after_turn line) st (policy.turns st.machine line)).machine
          (ledger_after_retries (fold (after_turn line) st (policy.turns st.machine line)))
          (turns_keep line lines (policy.turns st.machine line) st
          (exempt k first (λ v n. E₀ ⊎ (contains_number n (line ∷ lines) ≡ true))
          (StillToRetry line (policy.turns st.machine line) lines) st.machine
          (ledger_after_retries st) I
          (λ v r p q e. inl (begin v r q e))))
          (λ v r p q e. inl (finish v r.line e))
        where
          finish : (v n : ℕ) → StillToRetry line [] lines v n
              → E₀ ⊎ (contains_number n lines ≡ true)
          finish v n (inl e) = e
          finish v n (inr p) = absurd (both_ways false refl p.1)

          begin :
              (v : ℕ) (r : Request) → request_of st.machine.queue v ≡ Some r
              → E₀ ⊎ (contains_number r.line (line ∷ lines) ≡ true)
              → StillToRetry line (policy.turns st.machine line) lines v r.line
          begin v r q (inl e) = inl (inl e)
          begin v r q (inr h) =
              ⊎_elim
              (λ e.
              let same : line ≡ r.line = eqb-true line r.line e in
              ⊎_elim (λ x. inl (inl x))
              (λ x.
              inr (
                sym same,
                subst (λ n. contains_number v (policy.turns st.machine n) ≡ true)
                    (sym same) x,
              ))
              (covers st.machine v r q))
              (λ x. inl (inr x)) (or_cases (eqb line r.line) (contains_number r.line lines) h)

      turns_at_lines_keep :
          (lines : List ℕ) (st : AfterRetries k)
          → Invariant k first (λ v n. E₀ ⊎ (contains_number n lines ≡ true)) st.machine
          (ledger_after_retries st)
          → Invariant k first (λ v n. E₀) (fold (after_turns policy) st lines).machine
          (ledger_after_retries (fold (after_turns policy) st lines))
      turns_at_lines_keep [] st I =
          exempt k first (λ v n. E₀ ⊎ (contains_number n [] ≡ true)) (λ v n. E₀) st.machine
          (ledger_after_retries st) I
          (λ v r p q e. inl (⊎_elim (λ x. x) (λ x. absurd (both_ways false refl x)) e))
      turns_at_lines_keep (line ∷ lines) st I =
          turns_at_lines_keep lines (after_turns policy st line)
          (turns_at_line_keep line lines st I)

      -- A warp gives up lines, and the requests that wait for them are retried.
      pub gives_up_keeps :
          (m : MachineState k) (w : ℕ) (warp_row : WarpRow) (lines : List ℕ)
          → Invariant k first (λ v n. E₀ ⊎ (contains_number n lines ≡ true))
          (without_lines m w warp_row lines) start
          → Invariant k first (λ v n. E₀) (after_giving_up policy m w warp_row lines).machine
          (ledger_after_retries (after_giving_up policy m w warp_row lines))
      unfolding after_giving_up
      gives_up_keeps m w warp_row lines I =
          turns_at_lines_keep lines
          (record { machine = without_lines m w warp_row lines; settled = [] }) I

      -- The end of a transaction.
      pub ends_keeps :
          (m : MachineState k) (w stamp : ℕ)
          → Invariant k first
          (λ v n. E₀ ⊎ (contains_number n (logged_lines (warp_row_of m w).log) ≡ true))
          (without_lines m w (idle_row stamp) (logged_lines (warp_row_of m w).log)) start
          → Invariant k first (λ v n. E₀) (after_end policy m w stamp).machine
          (ledger_after_retries (after_end policy m w stamp))
      unfolding after_end
      ends_keeps m w stamp I =
          gives_up_keeps m w (idle_row stamp) (logged_lines (warp_row_of m w).log) I
