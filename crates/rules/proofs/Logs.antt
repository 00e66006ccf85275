-- Lists in the machine: logs, rows and the queue.
use Rattle.std.proofs.Common.{◌≡◌, ℕ, ◌<◌, Bool, true, false, cond, not, ◌||◌, eqb, List, [], ◌∷◌}
use Rattle.std.proofs.Common.{◌++◌, length, is_some, Some, None, fold, Option, sym, refl, ap, ◌∙◌}
use Rattle.std.proofs.Common.{subst, ⊎_elim}
use Rattle.std.proofs.lemmas.List.{get_or-set_same, get_or-set_other, get_or_past, map-append}
use Rattle.std.proofs.lemmas.List.Sums.{fold_push}
use Rattle.std.proofs.lemmas.Bool.{both_ways, eqb-true, ne_eqb, cases_Bool, cases_lt, or_left}
use Rattle.book.specs.Meaning.{Kind}
use Rattle.rules.specs.declared.state.Phase.TheVariants.{Idle, Open, Waiting, Settled}
use Rattle.rules.specs.declared.state.Request.{Request}
use Rattle.rules.specs.Lists.{contains_number, push_new}
use Rattle.rules.specs.Logs.{LogEntry, last_stored, entry_lines, logged_lines}
use Rattle.rules.specs.State.{WarpRow, MachineState, idle_row, is_idle, is_waiting, warp_row_of}
use Rattle.rules.specs.State.{with_warp_row}
use Rattle.rules.specs.Queue.{request_of, queue_without}
use Rattle.rules.specs.Transactions.{Action, loaded, stored, last_own_store, is_written}
use Rattle.rules.specs.Transactions.{transaction_stores}
use Rattle.rules.proofs.ListFacts.{eqb_refl, has_append}

-- The last value that the log has for a line is the one that the transaction last stored.
pub logged_own : (actions : List Action) (line : ℕ)
    → last_stored (transaction_stores actions) line ≡ last_own_store actions line
logged_own [] line = refl
logged_own (loaded d ∷ actions) line = logged_own actions line
logged_own (stored s ∷ actions) line =
    fold_push (λ found (e : LogEntry). cond (eqb e.line line) (Some e.value) found) None
    (transaction_stores actions) s
    ∙ ap (λ o. cond (eqb s.line line) (Some s.value) o) (logged_own actions line)

-- The logged lines are those that the transaction stored to.
has_push_new : (z : ℕ) (commits_seen : List ℕ) (x : ℕ)
    → contains_number z (push_new commits_seen x) ≡ (contains_number z commits_seen || eqb x z)
has_push_new z commits_seen x = step (contains_number x commits_seen) refl
  where
    or_false : (b : Bool) → (b || false) ≡ b
    or_false true = refl
    or_false false = refl

    step : (b : Bool) → contains_number x commits_seen ≡ b
        → contains_number z (cond b commits_seen (commits_seen ++ x ∷ [])) ≡
        (contains_number z commits_seen || eqb x z)
    step false e = has_append z commits_seen (x ∷ [])
        ∙ ap (λ b. contains_number z commits_seen || b) (or_false (eqb x z))
    step true e = ⊎_elim same other (cases_Bool (eqb x z))
      where
        same : eqb x z ≡ true
            → contains_number z commits_seen ≡ (contains_number z commits_seen || eqb x z)
        same p =
            let h : contains_number z commits_seen ≡ true =
            subst (λ y. contains_number y commits_seen ≡ true) (eqb-true x z p) e in
            h ∙ sym (or_left (contains_number z commits_seen) (eqb x z) h)

        other : eqb x z ≡ false
            → contains_number z commits_seen ≡ (contains_number z commits_seen || eqb x z)
        other p = sym
            (ap (λ b. contains_number z commits_seen || b) p
            ∙ or_false (contains_number z commits_seen))

has_distinct_from : (z : ℕ) (xs commits_seen : List ℕ)
    → contains_number z (fold push_new commits_seen xs) ≡
    (contains_number z commits_seen || contains_number z xs)
has_distinct_from z [] commits_seen = flat (contains_number z commits_seen)
  where
    flat : (b : Bool) → b ≡ (b || false)
    flat true = refl
    flat false = refl
has_distinct_from z (x ∷ xs) commits_seen =
    has_distinct_from z xs (push_new commits_seen x)
    ∙ ap (λ b. b || contains_number z xs) (has_push_new z commits_seen x)
    ∙ regroup (contains_number z commits_seen) (eqb x z) (contains_number z xs)
  where
    regroup : (a b c : Bool) → ((a || b) || c) ≡ (a || (b || c))
    regroup true b c = refl
    regroup false b c = refl

pub has_logged : (actions : List Action) (line : ℕ)
    → contains_number line (logged_lines (transaction_stores actions)) ≡ is_written actions line
has_logged actions line =
    has_distinct_from line (entry_lines (transaction_stores actions)) [] ∙ in_log actions
  where
    in_log : (ds : List Action)
        → contains_number line (entry_lines (transaction_stores ds)) ≡ is_written ds line
    in_log [] = refl
    in_log (loaded d ∷ ds) = in_log ds
    in_log (stored s ∷ ds) =
        ap (contains_number line)
        (map-append (λ (e : LogEntry). e.line) (transaction_stores ds) (s ∷ []))
        ∙ has_append line (entry_lines (transaction_stores ds)) (s.line ∷ [])
        ∙ ap (λ b. b || (eqb s.line line || false)) (in_log ds)
        ∙ step (eqb s.line line) (last_own_store ds line)
      where
        step : (b : Bool) (o : Option ℕ)
            → (is_some o || (b || false)) ≡ is_some (cond b (Some s.value) o)
        step true None = refl
        step true (Some u) = refl
        step false None = refl
        step false (Some u) = refl

module _ {k : Kind} (m : MachineState k) (w : ℕ) where
  -- A row that is replaced is the new one, and the others do not change.
  pub warp_row_put :
      (warp_row : WarpRow) → w < length m.warp_rows
      → warp_row_of (with_warp_row m w warp_row) w ≡ warp_row
  warp_row_put warp_row low = get_or-set_same m.warp_rows w warp_row (idle_row 0) low

  pub warp_row_kept :
      (warp_row : WarpRow) (v : ℕ) → (v ≡ w → ⊥)
      → warp_row_of (with_warp_row m w warp_row) v ≡ warp_row_of m v
  warp_row_kept warp_row v n = get_or-set_other m.warp_rows w v warp_row (idle_row 0) n

  -- A warp that is not idle is one of the machine's.
  pub busy_low : is_idle (warp_row_of m w).phase ≡ false → w < length m.warp_rows
  busy_low e =
      ⊎_elim (λ l. l)
      (λ g.
      absurd
      (both_ways (is_idle (warp_row_of m w).phase) e
      (ap (λ (warp_row : WarpRow). is_idle warp_row.phase)
      (get_or_past m.warp_rows w (idle_row 0) g))))
      (cases_lt w (length m.warp_rows))

pub waiting_busy : (p : Rattle.rules.specs.declared.state.Phase.Phase) → is_waiting p ≡ true
    → is_idle p ≡ false
waiting_busy Idle e = absurd (both_ways false refl e)
waiting_busy Open e = refl
waiting_busy Waiting e = refl
waiting_busy (Settled outcome) e = refl

-- A request that joins the queue is its warp's, unless the warp already has one there; the requests
-- of others stay.
pub request_push :
    (queue : List Request) (r : Request) (v : ℕ) → (v ≡ r.warp → ⊥)
    → request_of (queue ++ r ∷ []) v ≡ request_of queue v
request_push [] r v n = ap (λ b. cond b (Some r) None) (ne_eqb r.warp v (λ e. n (sym e)))
request_push (q ∷ queue) r v n = ap (λ o. cond (eqb q.warp v) (Some q) o) (request_push queue r v n)

pub request_mine :
    (queue : List Request) (r : Request) → request_of queue r.warp ≡ None
    → request_of (queue ++ r ∷ []) r.warp ≡ Some r
request_mine [] r e = ap (λ b. cond b (Some r) None) (eqb_refl r.warp)
request_mine (q ∷ queue) r e = step (eqb q.warp r.warp) e (request_mine queue r)
  where
    step :
        (b : Bool) → cond b (Some q) (request_of queue r.warp) ≡ None
        → (request_of queue r.warp ≡ None → request_of (queue ++ r ∷ []) r.warp ≡ Some r)
        → cond b (Some q) (request_of (queue ++ r ∷ []) r.warp) ≡ Some r
    step true p rest = cc
    step false p rest = rest p

-- When a request leaves the queue, the requests of others stay.
pub request_left :
    (queue : List Request) (w v : ℕ) → (v ≡ w → ⊥)
    → request_of (queue_without queue w) v ≡ request_of queue v
request_left [] w v n = refl
request_left (q ∷ queue) w v n = step (eqb q.warp w) refl (request_left queue w v n)
  where
    step :
        (b : Bool) → eqb q.warp w ≡ b → request_of (queue_without queue w) v ≡ request_of queue v
        → request_of (cond (not b) (q ∷ queue_without queue w) (queue_without queue w)) v
        ≡ cond (eqb q.warp v) (Some q) (request_of queue v)
    step true p rest =
        rest
        ∙ sym
        (ap (λ b. cond b (Some q) (request_of queue v))
        (ne_eqb q.warp v (λ e. n (sym e ∙ eqb-true q.warp w p))))
    step false p rest = ap (λ o. cond (eqb q.warp v) (Some q) o) rest

pub request_gone : (queue : List Request) (w : ℕ) → request_of (queue_without queue w) w ≡ None
request_gone [] w = refl
request_gone (q ∷ queue) w = step (eqb q.warp w) refl (request_gone queue w)
  where
    step :
        (b : Bool) → eqb q.warp w ≡ b → request_of (queue_without queue w) w ≡ None
        → request_of (cond (not b) (q ∷ queue_without queue w) (queue_without queue w)) w ≡ None
    step true p rest = rest
    step false p rest = ap (λ b. cond b (Some q) (request_of (queue_without queue w) w)) p ∙ rest
