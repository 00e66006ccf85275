-- The rows of a run, call by call, and the text that has them.
use Rattle.std.proofs.Common.{◌≡◌, ℕ, ◌+◌, ◌<◌, ◌≤◌, List, [], ◌∷◌, ◌++◌, length, drop, Option}
use Rattle.std.proofs.Common.{IfOk}
use Rattle.std.proofs.Common.{Result, string_bytes, fold, subst, append_assoc, append-nil}
use Rattle.std.proofs.Common.{refl, sym, ap, ◌∙◌, add-one, drop-cons, slice_index_or}
use Rattle.std.proofs.lemmas.List.{drop_all, map_push}
use Rattle.std.specs.declared.string.String.{String}
use Rattle.protocol.specs.declared.answer.Answer.{Answer}
use Rattle.protocol.specs.declared.call.Call.{Call}
use Rattle.protocol.specs.declared.fault.Fault.{Fault}
use Rattle.book.specs.Meaning.{Kind}
use Rattle.rules.specs.Queue.{product_policy}
use Rattle.rules.specs.Runs.{Event, Run, event_of, run_with_call, run}
use Rattle.rules.specs.State.{MachineState}
use Rattle.rules.specs.Steps.{step}
use Rattle.machine.specs.Running.{answers_in}
use Rattle.listing.specs.Listing.{call_rows, end_rows, run_text}
use Rattle.listing.specs.Rows.{bad_row, call_row}
use Rattle.explain.specs.Notes.{AddsRow, AddsRows, kept_from, without_notes}
use Rattle.explain.proofs.Ends.{adds_bad_row, IfOk-map}
use Rattle.explain.proofs.Rows.{call_row_kept}
use Rattle.explain.proofs.Scan.{row_with_note, more_rows}

module _ {k : Kind} where
  -- The rows of calls from a place on, each made of the machine that those before it leave, and of
  -- the end.
  unfoldable pub rows_from : ℕ → MachineState k → List Call → Option Fault → ℕ → List ℕ
  rows_from place m [] found limit = end_rows found m.lines limit
  rows_from place m (call ∷ calls) found limit =
      call_row place call (step (product_policy k) m call).answer
      ++ rows_from (place + 1) (step (product_policy k) m call).machine calls found limit

  -- What calls leave, and what they answer.
  abbrev after : MachineState k → List Call → MachineState k
  after m [] = m
  after m (call ∷ calls) = after (step (product_policy k) m call).machine calls

  abbrev answers_from : MachineState k → List Call → List (Result Answer Fault)
  answers_from m [] = []
  answers_from m (call ∷ calls) = (step (product_policy k) m call).answer
      ∷ answers_from (step (product_policy k) m call).machine calls

  run_after :
      (r : Run k) (calls : List Call)
      → (fold (run_with_call (product_policy k)) r calls).machine ≡ after r.machine calls
  unfolding run_with_call
  run_after r [] = refl
  run_after r (call ∷ calls) = run_after (run_with_call (product_policy k) r call) calls

  run_answered :
      (r : Run k) (calls : List Call)
      → answers_in (fold (run_with_call (product_policy k)) r calls).events ≡ answers_in r.events
      ++ answers_from r.machine calls
  unfolding run_with_call
  run_answered r [] = sym (append-nil _)
  run_answered r (call ∷ calls) =
      let s = step (product_policy k) r.machine call in
      run_answered (run_with_call (product_policy k) r call) calls
      ∙ ap (λ answers. answers ++ answers_from s.machine calls)
      (map_push (λ (e : Event). e.answer) r.events (event_of (product_policy k) r.machine call))
      ∙ append_assoc (answers_in r.events) (s.answer ∷ []) (answers_from s.machine calls)

  rows_of_calls :
      (place : ℕ) (m : MachineState k) (calls : List Call) (found : Option Fault) (limit : ℕ)
      → call_rows place calls (answers_from m calls) ++ end_rows found (after m calls).lines limit
      ≡ rows_from place m calls found limit
  unfolding rows_from
  rows_of_calls place m [] found limit = refl
  rows_of_calls place m (call ∷ calls) found limit =
      let s = step (product_policy k) m call in
      append_assoc (call_row place call s.answer)
      (call_rows (place + 1) calls (answers_from s.machine calls))
      (end_rows found (after s.machine calls).lines limit)
      ∙ ap (λ t. call_row place call s.answer ++ t)
      (rows_of_calls (place + 1) s.machine calls found limit)

  pub rows_of_run :
      (m : MachineState k) (calls : List Call) (found : Option Fault) (limit : ℕ)
      → run_text (run (product_policy k) m calls) calls found limit ≡ rows_from 1 m calls found
      limit
  rows_of_run m calls found limit =
      let start : Run k = record { machine = m; events = [] } in
      ap (λ answers. call_rows 1 calls answers
      ++ end_rows found (run (product_policy k) m calls).machine.lines limit)
      (run_answered start calls)
      ∙ ap (λ (n : MachineState k). call_rows 1 calls (answers_from m calls)
      ++ end_rows found n.lines limit)
      (run_after start calls)
      ∙ rows_of_calls 1 m calls found limit

-- A text lacks only these last rows of the whole.
pub record LacksRows (text rest whole : List ℕ) : Type 0 where
  pub completed : (new : List ℕ) → AddsRows rest text new → without_notes new ≡ whole

lacks_all_rows : (whole : List ℕ) → LacksRows [] whole whole
unfolding kept_from
lacks_all_rows whole =
    record {
      completed = λ new h.
          ap (λ t. without_notes t) (h.grown ∙ sym (append-nil h.lines))
          ∙ h.rows_alone []
          ∙ append-nil whole;
    }

pub lacks_fewer_rows :
    (row rest whole old new : List ℕ) → LacksRows old (row ++ rest) whole → AddsRows row old new
    → LacksRows new rest whole
lacks_fewer_rows row rest whole old new h g =
    record { completed = λ last more. h.completed last (more_rows row rest old new last g more) }

pub lacks_every_row : (text whole : List ℕ) → text ≡ [] → LacksRows text whole whole
lacks_every_row text whole e = subst (λ t. LacksRows t whole whole) (sym e) (lacks_all_rows whole)

-- The calls that are left, one call less.
one_call_more :
    (calls : List Call) (i : ℕ) (other : Call) → i < length calls
    → drop i calls ≡ slice_index_or calls i other ∷ drop (i + 1) calls
one_call_more calls i other more = rw add-one (drop-cons calls i other more)

module _ {k : Kind} where
  -- A call's row is added.
  pub lacks_next_rows :
      (m m' : MachineState k) (calls : List Call) (i : ℕ) (other : Call) (found : Option Fault)
      (limit : ℕ)
      (old new whole : List ℕ)
      → LacksRows old (rows_from (i + 1) m (drop i calls) found limit) whole
      → i < length calls
      → m' ≡ (step (product_policy k) m (slice_index_or calls i other)).machine
      → AddsRow
      (call_row (i + 1) (slice_index_or calls i other)
      (step (product_policy k) m (slice_index_or calls i other)).answer)
      old new
      → LacksRows new (rows_from (i + 1 + 1) m' (drop (i + 1) calls) found limit) whole
  unfolding rows_from
  lacks_next_rows m m' calls i other found limit old new whole h more after g =
      let call : Call = slice_index_or calls i other in
      let rest : List ℕ =
      rows_from (i + 1 + 1) (step (product_policy k) m call).machine
      (drop (i + 1) calls) found limit in
      let row : List ℕ = call_row (i + 1) call (step (product_policy k) m call).answer in
      let before : LacksRows old (row ++ rest) whole =
      subst (λ cs. LacksRows old (rows_from (i + 1) m cs found limit) whole)
      (one_call_more calls i other more) h in
      subst (λ n. LacksRows new (rows_from (i + 1 + 1) n (drop (i + 1) calls) found limit) whole)
      (sym after)
      (lacks_fewer_rows row rest whole old new before
      (row_with_note row old new
      (call_row_kept (i + 1) call (step (product_policy k) m call).answer) g))

  -- The end is added.
  pub rows_complete :
      {A E : Type 0} (r : Result (String A) E) (first m : MachineState k) (calls : List Call)
      (i : ℕ)
      (found : Option Fault) (limit : ℕ) (text : List ℕ)
      → length calls ≤ i
      → LacksRows text (rows_from (i + 1) m (drop i calls) found limit)
      (rows_from 1 first calls found limit)
      → IfOk r (λ t. AddsRows (end_rows found m.lines limit) text (string_bytes t))
      → IfOk r (λ t. without_notes (string_bytes t) ≡ run_text
      (run (product_policy k) first calls) calls found limit)
  unfolding rows_from
  rows_complete r first m calls i found limit text over h g =
      let whole : List ℕ = rows_from 1 first calls found limit in
      let before : LacksRows text (end_rows found m.lines limit) whole =
      subst (λ cs. LacksRows text (rows_from (i + 1) m cs found limit) whole)
      (drop_all i calls over) h in
      IfOk-map r (AddsRows (end_rows found m.lines limit) text)
      (λ t. without_notes t ≡ run_text (run (product_policy k) first calls) calls found limit)
      (λ new more. before.completed new more ∙ sym (rows_of_run first calls found limit)) g

-- The text of a damaged header is one row and its note.
pub damage_complete :
    {A E : Type 0} (r : Result (String A) E) (fault : Fault) (old : List ℕ) → old ≡ []
    → IfOk r (λ t. AddsRow (bad_row fault) old (string_bytes t))
    → IfOk r (λ t. without_notes (string_bytes t) ≡ bad_row fault)
damage_complete r fault old e h =
    IfOk-map r (AddsRow (bad_row fault) old) (λ t. without_notes t ≡ bad_row fault)
    (λ new g. (lacks_every_row old (bad_row fault) e).completed new (adds_bad_row fault old new g))
    h
