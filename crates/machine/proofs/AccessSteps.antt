-- The machine's load, store and fetch are steps of the rules.
use Rattle.std.proofs.Common.{◌≡◌, ℕ, Bool, ◌⊎◌, List, set, Ok, Result, sym, refl, ap, ◌∙◌, subst}
use Rattle.std.proofs.Common.{⊎_elim}
use Rattle.protocol.specs.Answers.{answer_of}
use Rattle.protocol.specs.declared.answer.Answer.{Answer}
use Rattle.protocol.specs.declared.answer.Answer.TheVariants.{Wait, Gone}
use Rattle.protocol.specs.declared.answer.Cause.{Cause}
use Rattle.protocol.specs.declared.answer.Cause.TheVariants.{QueueFull}
use Rattle.protocol.specs.declared.answer.Outcome.{Outcome}
use Rattle.protocol.specs.declared.answer.Outcome.TheVariants.{Value, Stored, Gone as OutcomeGone}
use Rattle.protocol.specs.declared.fault.Fault.{Fault}
use Rattle.book.specs.Meaning.{Kind}
use Rattle.book.specs.Time.{Time}
use Rattle.book.specs.declared.book.LineState.{LineState}
use Rattle.rules.specs.declared.verdict.Verdict.{Verdict}
use Rattle.rules.specs.declared.verdict.Verdict.TheVariants.{OwnLine, Gone as VerdictGone, MustWait}
use Rattle.rules.specs.declared.verdict.Verdict.TheVariants.{GoOn}
use Rattle.rules.specs.Access.{line_state, access_verdict, verdict_with_room}
use Rattle.rules.specs.Queue.{Policy, is_full}
use Rattle.rules.specs.State.{WarpRow, MachineState, row_in_phase, warp_row_of, time_of}
use Rattle.rules.specs.Serving.{served_on_free_line, served_on_own_line}
use Rattle.rules.specs.Steps.{with_request_queued, step_by_verdict, access_step, fetched_step}
use Rattle.rules.specs.Ending.{after_end}
use Rattle.rules.specs.declared.state.Access.{Access}
use Rattle.rules.specs.declared.state.Phase.TheVariants.{Open}
use Rattle.rules.specs.declared.state.Request.{Request}
use Rattle.machine.specs.CallParts.{wait_step, with_request}
use Rattle.machine.proofs.ServeSteps.{built, with_rows_and_queue}

module _ {k : Kind} (policy : Policy k) (m : MachineState k) (w : ℕ) where
  -- A machine and an answer are those of a step.
  pub record Leaves (after : MachineState k) (answer : Answer) (left : MachineState k)
      (said : Result Answer Fault) : Type 0 where
    pub machine : after ≡ left
    pub says : Ok answer ≡ said

  module _ (line : ℕ) (access : Access) where
    abbrev By : MachineState k → Answer → Verdict → Type 0
    By after answer v =
        Leaves after answer (step_by_verdict policy m w line access v).machine
        (step_by_verdict policy m w line access v).answer

    -- A verdict, once the room in the queue is known.
    abbrev in_room : Verdict → Verdict
    in_room v = verdict_with_room (is_full policy.line_room policy.queue_room m.queue line)
        (warp_row_of m w).stamp v

    abbrev Done : MachineState k → Answer → Type 0
    Done after answer =
        Leaves after answer (access_step policy m w line access).machine
        (access_step policy m w line access).answer

    pub access_by_verdict :
        (after : MachineState k) (answer : Answer) (v : Verdict) (wanted : Access)
        (facts : LineState)
        (time : Time)
        → wanted ≡ access → facts ≡ line_state k m.book line → time ≡ time_of m w
        → v ≡ access_verdict wanted facts time
        → By after answer (in_room v) → Done after answer
    access_by_verdict after answer v wanted facts time a f t e by =
        let is : v ≡ access_verdict access (line_state k m.book line) (time_of m w) =
        e ∙ ap (λ x. access_verdict x facts time) a ∙ ap (λ x. access_verdict access x time) f
        ∙ ap (access_verdict access (line_state k m.book line)) t in
        subst (λ x. By after answer (in_room x)) is by

    -- A request that must wait, by whether the queue is full.
    abbrev Queues : MachineState k → Answer → Type 0
    Queues after answer =
        Leaves after answer (wait_step policy m w line access).machine
        (wait_step policy m w line access).answer

    pub wait_by_room :
        (after : MachineState k) (answer : Answer) (found full : Bool) (per_line lines : ℕ)
        → per_line ≡ policy.line_room → lines ≡ policy.queue_room
        → found ≡ is_full per_line lines m.queue line → found ≡ full
        → By after answer (verdict_with_room full (warp_row_of m w).stamp MustWait)
        → Queues after answer
    wait_by_room after answer found full per_line lines a b is said by =
        let room = is ∙ ap (λ n. is_full n lines m.queue line) a
        ∙ ap (λ n. is_full policy.line_room n m.queue line) b in
        subst (λ x. By after answer (verdict_with_room x (warp_row_of m w).stamp MustWait))
        (sym said ∙ room) by

    pub must_wait : (after : MachineState k) (answer : Answer)
        → after ≡ (wait_step policy m w line access).machine
        → Ok answer ≡ (wait_step policy m w line access).answer → By after answer (in_room MustWait)
    must_wait after answer a says = record { machine = a; says = says }

    pub on_own_line :
        (after : MachineState k) (outcome : Outcome) (answer : Answer)
        → after ≡ (served_on_own_line m w line access).machine
        → outcome ≡ (served_on_own_line m w line access).outcome → answer ≡ answer_of outcome
        → By after answer OwnLine
    unfolding step_by_verdict
    on_own_line after outcome answer a b c =
        record { machine = a; says = ap Ok (c ∙ ap answer_of b) }

    pub going_on :
        (after : MachineState k) (outcome : Outcome) (answer : Answer)
        → after ≡ (served_on_free_line m w line access).machine
        → outcome ≡ (served_on_free_line m w line access).outcome → answer ≡ answer_of outcome
        → By after answer GoOn
    unfolding step_by_verdict
    going_on after outcome answer a b c = record { machine = a; says = ap Ok (c ∙ ap answer_of b) }

    pub gone :
        (after : MachineState k) (answer : Answer) (cause : Cause) (next : ℕ)
        → after ≡ (after_end policy m w next).machine
        → answer ≡ Gone cause next → By after answer (VerdictGone cause next)
    unfolding step_by_verdict
    gone after answer cause next a says = record { machine = a; says = ap Ok says }

    pub gone_for_room :
        (after : MachineState k) (answer : Answer) (stamp : ℕ) → stamp ≡ (warp_row_of m w).stamp
        → after ≡ (after_end policy m w stamp).machine → answer ≡ Gone QueueFull stamp
        → By after answer (VerdictGone QueueFull (warp_row_of m w).stamp)
    gone_for_room after answer stamp is e says =
        subst (λ s. By after answer (VerdictGone QueueFull s)) is
        (gone after answer QueueFull stamp e says)

    pub queued :
        (after : MachineState k)
        → after ≡ with_request m (record { warp = w; line = line; access = access })
        → By after Wait MustWait
    unfolding step_by_verdict with_request_queued
    queued after a = record { machine = a; says = refl }

  -- A fetched outcome.
  abbrev Fetched : MachineState k → Answer → Outcome → Type 0
  Fetched after answer o =
      Leaves after answer (fetched_step policy m w o).machine (fetched_step policy m w o).answer

  abbrev rows_with_resumed : List WarpRow → List WarpRow
  rows_with_resumed ls = set ls w (row_in_phase (warp_row_of m w) Open)

  -- A value or a store lets the warp go on.
  pub fetch_going_on :
      (warp_rows : List WarpRow) (queue : List Request) (answer : Answer) (outcome : Outcome)
      → ((value : ℕ) × (outcome ≡ Value value)) ⊎ (outcome ≡ Stored)
      → warp_rows ≡ rows_with_resumed m.warp_rows → queue ≡ m.queue → answer ≡ answer_of outcome
      → Fetched (built m.lines m.book warp_rows queue) answer outcome
  unfolding fetched_step
  fetch_going_on warp_rows queue answer outcome which a b says =
      let Is : Outcome → Type 0 = λ o. answer ≡ answer_of o
      → Fetched (built m.lines m.book warp_rows queue) answer o in
      let on = with_rows_and_queue m m warp_rows queue rows_with_resumed (λ q. q) refl a b in
      ⊎_elim
      (λ p. subst Is (sym p.1) (λ e. record { machine = on; says = ap Ok e }) says)
      (λ is. subst Is (sym is) (λ e. record { machine = on; says = ap Ok e }) says)
      which

  pub fetch_gone :
      (after : MachineState k) (answer : Answer) (cause : Cause) (next : ℕ) (outcome : Outcome)
      → outcome ≡ OutcomeGone cause next → after ≡ (after_end policy m w next).machine
      → answer ≡ Gone cause next
      → Fetched after answer outcome
  unfolding fetched_step
  fetch_gone after answer cause next outcome is a says =
      subst (λ o. Fetched after answer o) (sym is) (record { machine = a; says = ap Ok says })
