-- The queue stays sound, and has room for the request of a warp that does not wait.
use Rattle.std.proofs.Common.{◌≡◌, ℕ, zero, suc, ◌+◌, ◌<◌, ◌≤◌, Bool, true, false, cond, ltb, List}
use Rattle.std.proofs.Common.{[], ◌∷◌, ◌++◌, map, length, get_or, set, is_some, Some, ⊎_elim, sym}
use Rattle.std.proofs.Common.{refl, ap, ◌∙◌, subst, arith}
use Rattle.std.proofs.Math.ListN.{get_or-eq_default}
use Rattle.std.proofs.lemmas.List.{get_or-set_other, length-map, length-set}
use Rattle.std.proofs.lemmas.Bool.Decides.{nat_tests}
use Rattle.std.proofs.lemmas.Bool.{cases_lt, and_parts, and_from, both_ways, not-true}
use Rattle.std.proofs.lemmas.Bool.{not_from_false}
use Rattle.protocol.specs.Limits.{last_stamp}
use Rattle.rules.specs.Queue.{request_of, queue_without}
use Rattle.rules.specs.State.{WarpRow, idle_row, warp_row_at, row_in_phase, is_idle, is_waiting}
use Rattle.rules.specs.declared.state.Access.{Access}
use Rattle.rules.specs.declared.state.Access.TheVariants.{Read, Write}
use Rattle.rules.specs.declared.state.Phase.{Phase}
use Rattle.rules.specs.declared.state.Phase.TheVariants.{Idle, Open, Waiting, Settled}
use Rattle.rules.specs.declared.state.Request.{Request}
use Rattle.machine.proofs.WarpRows.{warp_row_row, log_long}
use Rattle.machine.specs.Warps.{warp_rows, queue_of, warp_row, has_room}
use Rattle.machine.specs.Phases.{is_open, is_settled, highest_stamp_in}
use Rattle.machine.specs.Rows.{no_row, warp_row_in}
use Rattle.machine.specs.Soundness.{is_fitting, fits_rows, QueueFitsRows}
use Rattle.machine.specs.declared.row.Row.{Row}
use Rattle.machine.specs.declared.warps.Warps.{Warps}

abbrev waits_in : List Row → ℕ → Bool
waits_in rows w = is_waiting (get_or rows w no_row).phase

abbrev pub has_request : List Request → ℕ → Bool
has_request q w = is_some (request_of q w)

waiting_if_fitting : (row : Row) (access : Access) → is_fitting row access ≡ true
    → is_waiting row.phase ≡ true
waiting_if_fitting row Read e = e
waiting_if_fitting row (Write value) e = (and_parts _ _ e).0

-- A sound queue by its first request and the rest.
record Parts (rows : List Row) (r : Request) (rest : List Request) : Type 0 where
  first_fits : is_fitting (get_or rows r.warp no_row) r.access ≡ true
  alone : has_request rest r.warp ≡ false
  sound_rest : fits_rows rows rest ≡ true

parts : (rows : List Row) (r : Request) (rest : List Request) → QueueFitsRows rows (r ∷ rest)
    → Parts rows r rest
parts rows r rest s =
    let a = and_parts _ _ s in
    let b = and_parts _ _ a.1 in
    record { first_fits = a.0; alone = not-true _ b.0; sound_rest = b.1 }

whole : (rows : List Row) (r : Request) (rest : List Request) → Parts rows r rest
    → QueueFitsRows rows (r ∷ rest)
whole rows r rest p =
    and_from _ _ p.first_fits (and_from _ _ (not_from_false _ p.alone) p.sound_rest)

no_request_in_rest : (r : Request) (rest : List Request) (w : ℕ) → has_request (r ∷ rest) w ≡ false
    → (r.warp ≡ w → ⊥) × (has_request rest w ≡ false)
no_request_in_rest r rest w e =
    (λ (is : r.warp ≡ w). grind (arith, nat_tests), grind (arith, nat_tests))

no_request_of_other : (r : Request) (rest : List Request) (w : ℕ) → (r.warp ≡ w → ⊥)
    → has_request rest w ≡ false → has_request (r ∷ rest) w
    ≡ false
no_request_of_other r rest w ne e = grind (arith, nat_tests)

-- A warp that does not wait has no request.
pub no_request_of :
    (rows : List Row) (q : List Request) (w : ℕ) → QueueFitsRows rows q → waits_in rows w ≡ false
    → has_request q w ≡ false
no_request_of rows [] w s e = refl
no_request_of rows (r ∷ rest) w s e =
    let p = parts rows r rest s in
    let apart : r.warp ≡ w → ⊥ =
    λ is. both_ways (waits_in rows w) e
    (ap (waits_in rows) (sym is)
    ∙ waiting_if_fitting (get_or rows r.warp no_row) r.access p.first_fits) in
    no_request_of_other r rest w apart (no_request_of rows rest w p.sound_rest e)

-- The queue stays sound if the row of a warp without a request changes,
pub IsSound-set :
    (rows : List Row) (q : List Request) (w : ℕ) (row : Row) → QueueFitsRows rows q
    → has_request q w ≡ false
    → QueueFitsRows (set rows w row) q
IsSound-set rows [] w row s e = refl
IsSound-set rows (r ∷ rest) w row s e =
    let p = parts rows r rest s in
    let n = no_request_in_rest r rest w e in
    whole (set rows w row) r rest
    (record {
      first_fits =
          ap (λ x. is_fitting x r.access) (get_or-set_other rows w r.warp row no_row n.0)
          ∙ p.first_fits;
      alone = p.alone;
      sound_rest = IsSound-set rows rest w row p.sound_rest n.1;
    })

-- if a request leaves,
no_request_without : (q : List Request) (w v : ℕ) → has_request q v ≡ false
    → has_request (queue_without q w) v ≡ false
no_request_without [] w v e = refl
no_request_without (r ∷ rest) w v e =
    let n = no_request_in_rest r rest v e in
    let rest_none = no_request_without rest w v n.1 in
    grind (arith, nat_tests, rest_none, n.0)

pub no_request_left : (q : List Request) (w : ℕ) → has_request (queue_without q w) w ≡ false
no_request_left [] w = refl
no_request_left (r ∷ rest) w = let rest_gone = no_request_left rest w
    in grind (arith, nat_tests, rest_gone)

pub IsSound-queue_without : (rows : List Row) (q : List Request) (w : ℕ) → QueueFitsRows rows q
    → QueueFitsRows rows (queue_without q w)
IsSound-queue_without rows [] w s = refl
IsSound-queue_without rows (r ∷ rest) w s =
    let p = parts rows r rest s in
    let alone = no_request_without rest w r.warp p.alone in
    let rest_sound = IsSound-queue_without rows rest w p.sound_rest in
    grind (arith, nat_tests)

-- and if a request joins that fits its row, of a warp that has none.
no_request_with :
    (q : List Request) (r : Request) (w : ℕ) → has_request q w ≡ false → (r.warp ≡ w → ⊥)
    → has_request (q ++ r ∷ []) w ≡ false
no_request_with [] r w e ne = no_request_of_other r [] w ne refl
no_request_with (x ∷ xs) r w e ne =
    let n = no_request_in_rest x xs w e in
    no_request_of_other x (xs ++ r ∷ []) w n.0 (no_request_with xs r w n.1 ne)

pub IsSound-push :
    (rows : List Row) (q : List Request) (r : Request) → QueueFitsRows rows q
    → has_request q r.warp ≡ false
    → is_fitting (get_or rows r.warp no_row) r.access ≡ true → QueueFitsRows rows (q ++ r ∷ [])
IsSound-push rows [] r s e f =
    whole rows r [] (record { first_fits = f; alone = refl; sound_rest = refl })
IsSound-push rows (x ∷ xs) r s e f =
    let p = parts rows x xs s in
    let n = no_request_in_rest x xs r.warp e in
    whole rows x (xs ++ r ∷ [])
    (record {
      first_fits = p.first_fits;
      alone = no_request_with xs r x.warp p.alone (λ is. n.0 (sym is));
      sound_rest = IsSound-push rows xs r p.sound_rest n.1 f;
    })

-- The request of a warp fits its row.
pub request_fits :
    (rows : List Row) (q : List Request) (w : ℕ) (r : Request) → QueueFitsRows rows q
    → request_of q w ≡ Some r
    → is_fitting (get_or rows w no_row) r.access ≡ true
request_fits rows [] w r s e = cc
request_fits rows (x ∷ xs) w r s e =
    let p = parts rows x xs s in
    let rest_fits = request_fits rows xs w r p.sound_rest in
    grind (arith, nat_tests, rest_fits)

-- There are no more requests than waiting rows.
abbrev waiting : List Row → ℕ
waiting [] = 0
waiting (row ∷ rows) = cond (is_waiting row.phase) 1 0 + waiting rows

waiting_at_most : (rows : List Row) → waiting rows ≤ length rows
waiting_at_most [] = omega arith
waiting_at_most (row ∷ rows) = let h = waiting_at_most rows in grind (arith, nat_tests)

waiting_fewer : (rows : List Row) (w : ℕ) → w < length rows → waits_in rows w ≡ false
    → waiting rows < length rows
waiting_fewer [] w l e = absurd (omega arith)
waiting_fewer (row ∷ rows) zero l e =
    let h = waiting_at_most rows in
    grind (arith, nat_tests)
waiting_fewer (row ∷ rows) (suc w) l e = let h = waiting_fewer rows w (omega arith) e
    in grind (arith, nat_tests)

waiting_less :
    (rows : List Row) (w : ℕ) → waits_in rows w ≡ true
    → waiting (set rows w no_row) + 1 ≡ waiting rows
waiting_less [] w e = absurd (both_ways false refl e)
waiting_less (row ∷ rows) zero e = grind (arith, nat_tests)
waiting_less (row ∷ rows) (suc w) e =
    let h = waiting_less rows w e in
    omega arith

length-queue-waiting : (rows : List Row) (q : List Request) → QueueFitsRows rows q
    → length q ≤ waiting rows
length-queue-waiting rows [] s = omega arith
length-queue-waiting rows (r ∷ rest) s =
    let p = parts rows r rest s in
    let less = waiting_less rows r.warp
    (waiting_if_fitting (get_or rows r.warp no_row) r.access p.first_fits) in
    let h = length-queue-waiting (set rows r.warp no_row) rest
    (IsSound-set rows rest r.warp no_row p.sound_rest p.alone) in
    omega arith

row_waits :
    (rows : List Row) (w : ℕ) → is_waiting (warp_row_at (map warp_row_in rows) w).phase ≡ false
    → waits_in rows w ≡ false
row_waits rows w idle = ap (λ (l : WarpRow). is_waiting l.phase) (sym (warp_row_row rows w)) ∙ idle

room_for_one :
    (rows : List Row) (q : List Request) (w : ℕ) → QueueFitsRows rows q → w < length rows
    → waits_in rows w ≡ false
    → length q < length rows
room_for_one rows q w s l e =
    let a = length-queue-waiting rows q s in
    let b = waiting_fewer rows w l e in
    omega arith

-- The room for a request does not depend on the phase.
pub room_in_phase :
    (l : WarpRow) (phase : Phase) (access : Access)
    → has_room (row_in_phase l phase) access ≡ has_room l access
room_in_phase l phase Read = refl
room_in_phase l phase (Write value) = refl

-- A request fits the row of a waiting warp with room for it.
pub fits_warp_row :
    (row : Row) (access : Access) → is_waiting row.phase ≡ true
    → has_room (warp_row_in row) access ≡ true
    → is_fitting row access ≡ true
fits_warp_row row Read e room = e
fits_warp_row row (Write value) e room =
    and_from _ _ e (subst (λ n. ltb n 32 ≡ true) (log_long row) room)

room_of : (row : Row) (access : Access) → is_fitting row access ≡ true
    → has_room (warp_row_in row) access ≡ true
room_of row Read e = refl
room_of row (Write value) e =
    subst (λ n. ltb n 32 ≡ true) (sym (log_long row)) (and_parts (is_waiting row.phase) _ e).1

-- What follows from a phase.
open_phase : (phase : Phase) → is_open phase ≡ true
    → (is_waiting phase ≡ false) × (is_idle phase ≡ false)
open_phase Idle o = cc
open_phase Open o = (refl, refl)
open_phase Waiting o = cc
open_phase (Settled outcome) o = cc

pub settled_phase : (phase : Phase) → is_settled phase ≡ true
    → (is_waiting phase ≡ false) × (is_idle phase ≡ false)
settled_phase Idle s = cc
settled_phase Open s = cc
settled_phase Waiting s = cc
settled_phase (Settled outcome) s = (refl, refl)

waiting_phase : (phase : Phase) → is_waiting phase ≡ true → is_idle phase ≡ false
waiting_phase Idle e = cc
waiting_phase Open e = refl
waiting_phase Waiting e = refl
waiting_phase (Settled outcome) e = refl

highest_busy : (phase : Phase) → is_idle phase ≡ false → highest_stamp_in phase ≡ last_stamp
highest_busy Idle e = cc
highest_busy Open e = refl
highest_busy Waiting e = refl
highest_busy (Settled outcome) e = refl

-- What follows for an open warp.
pub record OpenRow (t : Warps) (w : ℕ) : Type 0 where
  pub inside : w < length (warp_rows t)
  pub free : is_waiting (warp_row t w).phase ≡ false
  pub on_time : (warp_row t w).stamp ≤ last_stamp

-- What follows from the invariant of the table.
module _ (t : Warps) where
  -- The log has room for what a request asks for.
  pub room_of_request :
      (w : ℕ) (r : Request) → Some r ≡ request_of (queue_of t) w
      → has_room (warp_row t w) r.access ≡ true
  room_of_request w r asked =
      ap (λ l. has_room l r.access) (warp_row_row t.rows.items w)
      ∙ room_of (get_or t.rows.items w no_row) r.access
      (request_fits t.rows.items (queue_of t) w r t.sound (sym asked))

  -- A warp that does not wait has no request, and there is room for one.
  pub free : (w : ℕ) → is_waiting (warp_row t w).phase ≡ false → has_request (queue_of t) w ≡ false
  free w idle = no_request_of t.rows.items (queue_of t) w t.sound (row_waits t.rows.items w idle)

  pub room_for : (w : ℕ) → w < length (warp_rows t) → is_waiting (warp_row t w).phase ≡ false
      → length (queue_of t) < 32
  room_for w low idle =
      let long = length-map t.rows.items warp_row_in in
      let count = t.count in
      let room = room_for_one t.rows.items (queue_of t) w t.sound (omega arith)
      (row_waits t.rows.items w idle) in
      omega arith

  -- The stamp of a warp with a transaction is not past the end of the clock.
  pub busy_on_time : (w : ℕ) → is_idle (warp_row t w).phase ≡ false
      → (warp_row t w).stamp ≤ last_stamp
  busy_on_time w busy =
      let row = get_or t.rows.items w no_row in
      let here = warp_row_row t.rows.items w in
      let late : (warp_row t w).stamp ≤ highest_stamp_in (warp_row t w).phase =
      subst (λ (l : WarpRow). l.stamp ≤ highest_stamp_in l.phase) (sym here) row.on_time in
      let most = highest_busy (warp_row t w).phase busy in
      omega arith

  pub waiting_on_time : (w : ℕ) → is_waiting (warp_row t w).phase ≡ true
      → (warp_row t w).stamp ≤ last_stamp
  waiting_on_time w e = busy_on_time w (waiting_phase (warp_row t w).phase e)

  open_inside : (w : ℕ) → is_open (warp_row t w).phase ≡ true → w < length (warp_rows t)
  open_inside w o = ⊎_elim (λ (low : w < length (warp_rows t)). low) past
      (cases_lt w (length (warp_rows t)))
    where
      past : length (warp_rows t) ≤ w → w < length (warp_rows t)
      past high =
          let nobody = sym (get_or-eq_default (warp_rows t) (idle_row 0) high) in
          absurd (both_ways false refl (ap (λ (l : WarpRow). is_open l.phase) nobody ∙ o))

  pub open_row : (w : ℕ) → is_open (warp_row t w).phase ≡ true → OpenRow t w
  open_row w o =
      let says = open_phase (warp_row t w).phase o in
      record { inside = open_inside w o; free = says.0; on_time = busy_on_time w says.1 }

  -- The row of a warp without a request may change.
  pub row_set :
      (w : ℕ) (row : Row) → has_request (queue_of t) w ≡ false
      → (length (set t.rows.items w row) ≤ 32) × QueueFitsRows (set t.rows.items w row) (queue_of t)
  row_set w row none =
      let long = length-set t.rows.items w row in
      let count = t.count in (
        omega arith,
        IsSound-set t.rows.items (queue_of t) w row t.sound none,
      )

  -- A request may join if its warp has none, waits, and has room for it.
  pub IsSound-wait :
      (r : Request) (l : WarpRow) → has_request (queue_of t) r.warp ≡ false → warp_row t r.warp ≡ l
      → is_waiting l.phase ≡ true → has_room l r.access ≡ true
      → QueueFitsRows t.rows.items (queue_of t ++ r ∷ [])
  IsSound-wait r l none is waits room =
      let here : warp_row_in (get_or t.rows.items r.warp no_row) ≡ l =
      sym (warp_row_row t.rows.items r.warp) ∙ is in
      IsSound-push t.rows.items (queue_of t) r t.sound none
      (fits_warp_row (get_or t.rows.items r.warp no_row) r.access
      (ap (λ (x : WarpRow). is_waiting x.phase) here ∙ waits)
      (ap (λ (x : WarpRow). has_room x r.access) here ∙ room))
