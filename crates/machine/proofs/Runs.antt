-- A run with one more call.
use Rattle.std.proofs.Common.{◌≡◌, ℕ, suc, ◌+◌, ◌<◌, ◌≤◌, List, [], ◌∷◌, ◌++◌, length, get_or, set}
use Rattle.std.proofs.Common.{take, drop, Result, sym, ap, ◌∙◌, arith}
use Rattle.std.proofs.Math.Seq.{drop-cons, set-append_seam}
use Rattle.std.proofs.lemmas.List.{take_all, take_at, map_push, length-append, length-map}
use Rattle.std.proofs.lemmas.List.{append_assoc, append-nil, length-take, drop_all}
use Rattle.std.proofs.lemmas.List.Sums.{fold_more}
use Rattle.std.specs.List.{fold}
use Rattle.protocol.specs.declared.answer.Answer.{Answer}
use Rattle.protocol.specs.declared.call.Call.{Call}
use Rattle.protocol.specs.declared.fault.Fault.{Fault}
use Rattle.book.specs.Meaning.{Kind}
use Rattle.rules.specs.Queue.{Policy}
use Rattle.rules.specs.State.{MachineState}
use Rattle.rules.specs.Runs.{Event, Run, run_with_call, event_of, run}
use Rattle.rules.specs.Steps.{step}
use Rattle.machine.specs.Running.{answers_in, answers_after, calls_made}

-- The place after the first ones is set.
set-append_drop : {X : Type 0} (xs ys : List X) (i : ℕ) (d a : X) → length xs ≡ i → i < length ys
    → set (xs ++ drop i ys) i a ≡ (xs ++ a ∷ []) ++ drop (i + 1) ys
set-append_drop xs ys i d a is low =
    ap (λ zs. set (xs ++ zs) i a) (drop-cons ys i d low)
    ∙ ap (λ n. set (xs ++ get_or ys i d ∷ drop (suc i) ys) n a) (sym is)
    ∙ set-append_seam xs (get_or ys i d) (drop (suc i) ys) a
    ∙ sym (append_assoc xs (a ∷ []) (drop (suc i) ys))
    ∙ ap (λ n. (xs ++ a ∷ []) ++ drop n ys) (let e : suc i ≡ i + 1 = omega arith in e)

module _ (places : List (Result Answer Fault)) where
  -- One more answer.
  places_after-answer :
      (events : List Event) (e : Event) (i : ℕ) (answers next : List (Result Answer Fault))
      (answer : Result Answer Fault)
      → length events ≡ i → i < length places → answers ≡ answers_after events places
      → next ≡ set answers i answer
      → answer ≡ e.answer → next ≡ answers_after (events ++ e ∷ []) places
  places_after-answer events e i answers next answer count low was set_it says =
      set_it
      ∙ ap (λ zs. set zs i answer) (was ∙ ap (λ n. answers_in events ++ drop n places) count)
      ∙ set-append_drop (answers_in events) places i answer answer
      (length-map events (λ (x : Event). x.answer) ∙ count) low
      ∙ ap (λ a. (answers_in events ++ a ∷ []) ++ drop (i + 1) places) says
      ∙ ap (λ zs. zs ++ drop (i + 1) places) (sym (map_push (λ (x : Event). x.answer) events e))
      ∙ ap (λ n. answers_in (events ++ e ∷ []) ++ drop n places)
      (let z : length (events ++ e ∷ []) ≡ i + 1 = length-append events (e ∷ [])
      ∙ ap (λ n. n + 1) count in sym z)

module _ {k : Kind} (policy : Policy k) where
  -- A run has an event for each call.
  length-events_from : (r : Run k) (calls : List Call)
      → length (fold (run_with_call policy) r calls).events ≡ length r.events + length calls
  unfolding run_with_call
  length-events_from r [] = omega arith
  length-events_from r (call ∷ calls) =
      let z = length-events_from (run_with_call policy r call) calls in
      let y = length-append r.events (event_of policy r.machine call ∷ []) in
      omega arith

  pub length-events : (start : MachineState k) (calls : List Call)
      → length (run policy start calls).events ≡ length calls
  length-events start calls = length-events_from (record { machine = start; events = [] }) calls
      ∙ (omega arith)

  module _ (start : MachineState k) (places : List (Result Answer Fault)) where
    -- A machine and the places for answers are those of a run of some calls.
    pub record So (calls : List Call) (machine : MachineState k)
        (answers : List (Result Answer Fault)) :
        Type 0 where
      pub machine_is : machine ≡ (run policy start calls).machine
      pub answers_are : answers ≡ answers_after (run policy start calls).events places

    module _ (calls : List Call) where
      pub run_with_one_more :
          (i : ℕ) (call d : Call) (machine after : MachineState k)
          (answers next : List (Result Answer Fault))
          (answer : Result Answer Fault) → i < length calls → length calls ≤ length places
          → call ≡ get_or calls i d → So (take i calls) machine answers
          → after ≡ (step policy machine call).machine → answer ≡ (step policy machine call).answer
          → next ≡ set answers i answer → So (take (i + 1) calls) after next
      unfolding run_with_call
      run_with_one_more i call d machine after answers next answer low fits is inv a b c =
          let before = run policy start (take i calls) in
          let more : run policy start (take (i + 1) calls) ≡ run_with_call policy before
          (get_or calls i d) =
          fold_more (run_with_call policy) (record { machine = start; events = [] }) calls i d low
          in
          let at : run_with_call policy before call ≡ run policy start (take (i + 1) calls) =
          ap (run_with_call policy before) is ∙ sym more in
          let count : length before.events ≡ i =
          length-events start (take i calls) ∙ (let z = length-take i calls in omega arith) in
          record {
            machine_is =
                a ∙ ap (λ m. (step policy m call).machine) inv.machine_is
                ∙ ap (λ (r : Run k). r.machine) at;
            answers_are =
                places_after-answer places before.events
                (event_of policy before.machine call) i answers next answer count
                (omega arith) inv.answers_are c
                (b ∙ ap (λ m. (step policy m call).answer) inv.machine_is)
                ∙ ap (λ (r : Run k). answers_after r.events places) at;
          }

      pub run_of_all :
          (i : ℕ) (machine : MachineState k) (answers : List (Result Answer Fault))
          → length calls ≤ i
          → So (take i calls) machine answers → So calls machine answers
      run_of_all i machine answers past inv =
          let all = ap (run policy start) (take_all i calls past) in
          record {
            machine_is = inv.machine_is ∙ ap (λ (r : Run k). r.machine) all;
            answers_are = inv.answers_are ∙ ap (λ (r : Run k). answers_after r.events places) all;
          }

      -- With a place for each call, the answers are all that the places hold.
      pub answers_of_all :
          (len : ℕ) (answers rest : List (Result Answer Fault)) → length places ≡ length calls
          → len ≡ length calls
          → answers ≡ answers_after (run policy start (calls_made calls places)).events places
          → take len (answers ++ rest) ≡ answers_in (run policy start calls).events
      answers_of_all len answers rest room is e =
          let events = (run policy start calls).events in
          let count = length-events start calls in
          let made : calls_made calls places ≡ calls =
          take_all (length places) calls (omega arith) in
          let whole : answers ≡ answers_in events =
          e ∙ ap (λ cs. answers_after (run policy start cs).events places) made
          ∙ ap (λ ps. answers_in events ++ ps) (drop_all (length events) places (omega arith))
          ∙ append-nil (answers_in events) in
          take_at answers rest len
          (ap length whole ∙ length-map events (λ (x : Event). x.answer) ∙ count ∙ sym is)
          ∙ whole
