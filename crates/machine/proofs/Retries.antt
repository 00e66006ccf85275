-- What retries leave of the machine does not depend on the requests settled before.
use Rattle.std.proofs.Common.{◌≡◌, ℕ, false, ltb, List, [], ◌∷◌, map, length, Some, None, fold}
use Rattle.std.proofs.Common.{Option, sym, refl, ap, ◌∙◌, arith}
use Rattle.std.proofs.lemmas.List.{nil_from_length}
use Rattle.std.proofs.lemmas.Bool.{ltb-false}
use Rattle.protocol.specs.declared.answer.Cause.{Cause}
use Rattle.protocol.specs.declared.answer.Outcome.TheVariants.{Gone as OutcomeGone}
use Rattle.book.specs.Meaning.{Kind}
use Rattle.book.specs.Time.{Time}
use Rattle.book.specs.declared.book.LineState.{LineState}
use Rattle.rules.specs.declared.verdict.Verdict.{Verdict}
use Rattle.rules.specs.declared.verdict.Verdict.TheVariants.{OwnLine, Gone as VerdictGone, MustWait}
use Rattle.rules.specs.declared.verdict.Verdict.TheVariants.{GoOn}
use Rattle.rules.specs.Access.{line_state, retry_verdict}
use Rattle.rules.specs.Queue.{Policy, product_policy, pending_access, inserted_by_stamp}
use Rattle.rules.specs.Queue.{requests_on}
use Rattle.rules.specs.State.{MachineState, time_of}
use Rattle.rules.specs.Ending.{AfterRetries, after_retry, after_turn_with, after_turn, after_turns}
use Rattle.rules.specs.Ending.{after_turns_at_lines, after_settling}
use Rattle.rules.specs.declared.state.Access.{Access}
use Rattle.rules.specs.declared.state.Request.{Request}
use Rattle.machine.specs.CallParts.{before_retries, machine_after_turn, machine_after_turns}
use Rattle.machine.specs.CallParts.{after_serving}

module _ {k : Kind} where
  machine-after_try :
      (st : AfterRetries k) (w line : ℕ) (access : Access) (v : Verdict)
      → (after_retry st w line access v).machine ≡
      (after_retry (before_retries st.machine) w line access v).machine
  unfolding after_retry
  machine-after_try st w line access OwnLine = refl
  machine-after_try st w line access (VerdictGone cause next) = refl
  machine-after_try st w line access MustWait = refl
  machine-after_try st w line access GoOn = refl

  machine-after_turn_with :
      (st : AfterRetries k) (w line : ℕ) (o : Option Access)
      → (after_turn_with st w line o).machine ≡
      (after_turn_with (before_retries st.machine) w line o).machine
  unfolding after_turn_with
  machine-after_turn_with st w line None = refl
  machine-after_turn_with st w line (Some access) = machine-after_try st w line access _

  machine-after_turn : (line : ℕ) (st : AfterRetries k) (w : ℕ)
      → (after_turn line st w).machine ≡ machine_after_turn line st.machine w
  machine-after_turn line st w =
      machine-after_turn_with st w line (pending_access st.machine w line)

  machine-fold-after_turn :
      (line : ℕ) (st : AfterRetries k) (ws : List ℕ)
      → (fold (after_turn line) st ws).machine ≡ fold (machine_after_turn line) st.machine ws
  machine-fold-after_turn line st [] = refl
  machine-fold-after_turn line st (w ∷ ws) =
      machine-fold-after_turn line (after_turn line st w) ws
      ∙ ap (λ m. fold (machine_after_turn line) m ws) (machine-after_turn line st w)

  module _ (policy : Policy k) where
    after_turns-fold :
        (st : AfterRetries k) (line : ℕ)
        → (after_turns policy st line).machine ≡ fold (machine_after_turn line) st.machine
        (policy.turns st.machine line)
    unfolding after_turns
    after_turns-fold st line = machine-fold-after_turn line st (policy.turns st.machine line)

    pub machine_after_turns-fold : (m : MachineState k) (line : ℕ)
        → machine_after_turns policy m line ≡ fold (machine_after_turn line) m (policy.turns m line)
    machine_after_turns-fold m line = after_turns-fold (before_retries m) line

    machine-after_turns : (st : AfterRetries k) (line : ℕ)
        → (after_turns policy st line).machine ≡ machine_after_turns policy st.machine line
    machine-after_turns st line = after_turns-fold st line
        ∙ sym (after_turns-fold (before_retries st.machine) line)

    machine-fold-after_turns :
        (st : AfterRetries k) (lines : List ℕ)
        → (fold (after_turns policy) st lines).machine ≡ fold
        (machine_after_turns policy) st.machine lines
    machine-fold-after_turns st [] = refl
    machine-fold-after_turns st (line ∷ lines) =
        machine-fold-after_turns (after_turns policy st line) lines
        ∙ ap (λ m. fold (machine_after_turns policy) m lines) (machine-after_turns st line)

    -- Several lines.
    pub after_turns_at_lines-fold :
        (m : MachineState k) (lines : List ℕ)
        → (after_turns_at_lines policy m lines).machine ≡ fold
        (machine_after_turns policy) m lines
    after_turns_at_lines-fold m lines = machine-fold-after_turns (before_retries m) lines

  -- If no request waits for a line, there are no turns.
  pub no_turns : (m : MachineState k) (line : ℕ) → ltb 0 (length (requests_on m.queue line)) ≡ false
      → m ≡ machine_after_turns (product_policy k) m line
  no_turns m line e =
      let none = nil_from_length (requests_on m.queue line)
      (let z = ltb-false 0 _ e in omega arith) in
      ap (λ rs. fold (machine_after_turn line) m
      (fold (inserted_by_stamp m.warp_rows) [] (map (λ (r : Request). r.warp) rs))) (sym none)
      ∙ sym (machine_after_turns-fold (product_policy k) m line)

  -- A turn, by the request of its warp and the verdict on it.
  module _ (m : MachineState k) (w line : ℕ) where
    pub turn_without_request : None ≡ pending_access m w line → m ≡ machine_after_turn line m w
    unfolding after_turn_with
    turn_without_request e = ap (λ o. (after_turn_with (before_retries m) w line o).machine) e

    pub turn_by_verdict :
        (access : Access) (v : Verdict) → Some access ≡ pending_access m w line
        → v ≡ retry_verdict access (line_state k m.book line) (time_of m w)
        → (after_retry (before_retries m) w line access v).machine ≡ machine_after_turn line m w
    unfolding after_turn_with
    turn_by_verdict access v e is =
        ap (λ x. (after_retry (before_retries m) w line access x).machine) is
        ∙ ap (λ o. (after_turn_with (before_retries m) w line o).machine) e

    pub try_gone :
        (access : Access) (cause : Cause) (next : ℕ)
        → after_settling m w (OutcomeGone cause next) ≡
        (after_retry (before_retries m) w line access (VerdictGone cause next)).machine
    unfolding after_retry
    try_gone access cause next = refl

    pub try_going_on : (access : Access)
        → after_serving m w line access ≡
        (after_retry (before_retries m) w line access GoOn).machine
    unfolding after_retry
    try_going_on access = refl

    pub try_on_own_line : (access : Access)
        → m ≡ (after_retry (before_retries m) w line access OwnLine).machine
    unfolding after_retry
    try_on_own_line access = refl

    pub try_waiting : (access : Access)
        → m ≡ (after_retry (before_retries m) w line access MustWait).machine
    unfolding after_retry
    try_waiting access = refl

    -- The verdict at what the book says of the line, and at the warp's time.
    pub retried_here :
        (access : Access) (v : Verdict) (wanted : Access) (facts : LineState) (time : Time)
        → wanted ≡ access → facts ≡ line_state k m.book line → time ≡ time_of m w
        → v ≡ retry_verdict wanted facts time
        → v ≡ retry_verdict access (line_state k m.book line) (time_of m w)
    retried_here access v wanted facts time a f t e =
        e ∙ ap (λ x. retry_verdict x facts time) a ∙ ap (λ x. retry_verdict access x time) f
        ∙ ap (retry_verdict access (line_state k m.book line)) t
