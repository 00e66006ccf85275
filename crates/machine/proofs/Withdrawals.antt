-- A waiting request is settled: it is withdrawn, served as any other, and gets its outcome.
use Rattle.std.proofs.Common.{◌≡◌, ℕ, ◌<◌, ◌≤◌, Bool, true, false, List, length, set, sym, refl, ap}
use Rattle.std.proofs.Common.{◌∙◌, ⊎_elim, arith}
use Rattle.std.proofs.lemmas.List.{get_or-set_same, set-set, set_past, get_or_past}
use Rattle.std.proofs.lemmas.Bool.{cases_lt}
use Rattle.protocol.specs.declared.answer.Outcome.{Outcome}
use Rattle.book.specs.Meaning.{Kind, state_after_note, state_after_reserve}
use Rattle.rules.specs.Queue.{queue_without}
use Rattle.rules.specs.State.{WarpRow, MachineState, idle_row, row_in_phase, row_with_store}
use Rattle.rules.specs.State.{is_waiting}
use Rattle.rules.specs.State.{with_book}
use Rattle.rules.specs.State.{warp_row_at, warp_row_of}
use Rattle.rules.specs.Serving.{served_on_free_line}
use Rattle.rules.specs.Ending.{after_settling, after_withdrawal}
use Rattle.rules.specs.declared.state.Access.{Access}
use Rattle.rules.specs.declared.state.Access.TheVariants.{Read, Write}
use Rattle.rules.specs.declared.state.Phase.TheVariants.{Open}
use Rattle.rules.specs.declared.state.Request.{Request}
use Rattle.machine.specs.Phases.{highest_stamp, next_stamp, is_open}
use Rattle.machine.specs.Warps.{has_room}
use Rattle.machine.specs.CallParts.{after_serving, with_outcome}
use Rattle.machine.proofs.ServeSteps.{built, with_rows_and_queue}

module _ (rows : List WarpRow) (w : ℕ) where
  abbrev opened : List WarpRow
  opened = set rows w (row_in_phase (warp_row_at rows w) Open)

  -- A waiting warp is one of the machine's.
  waiting_there : is_waiting (warp_row_at rows w).phase ≡ true → w < length rows
  waiting_there e =
      ⊎_elim (λ low. low)
      (λ past. let none = ap (λ (r : WarpRow). is_waiting r.phase)
      (get_or_past rows w (idle_row 0) past) in
      let no : ◌≡◌ {A = Bool} true false = sym e ∙ none in absurd cc)
      (cases_lt w (length rows))

  -- The row of a warp whose request is withdrawn: open, with the same stamp and log.
  opened_row : w < length rows → warp_row_at opened w ≡ row_in_phase (warp_row_at rows w) Open
  opened_row low = get_or-set_same rows w (row_in_phase (warp_row_at rows w) Open) (idle_row 0) low

module _ {k : Kind} (m : MachineState k) (w : ℕ) where
  pub withdrawal_is :
      (warp_rows : List WarpRow) (queue : List Request)
      → warp_rows ≡ opened m.warp_rows w → queue ≡ queue_without m.queue w
      → built m.lines m.book warp_rows queue ≡ after_withdrawal m w
  unfolding after_withdrawal
  withdrawal_is warp_rows queue a b =
      with_rows_and_queue m m warp_rows queue (λ ls. opened ls w) (λ q. queue_without q w) refl a b

  pub settling_is : (after : MachineState k) (outcome : Outcome)
      → after ≡ with_outcome (after_withdrawal m w) w outcome
      → after ≡ after_settling m w outcome
  unfolding after_settling
  settling_is after outcome e = e

  module _ (waits : is_waiting (warp_row_of m w).phase ≡ true) where
    pub withdrawn_open : is_open (warp_row_of (after_withdrawal m w) w).phase ≡ true
    unfolding after_withdrawal
    withdrawn_open =
        ap (λ (r : WarpRow). is_open r.phase)
        (opened_row m.warp_rows w (waiting_there m.warp_rows w waits))

    pub withdrawn_room : (access : Access) → has_room (warp_row_of m w) access ≡ true
        → has_room (warp_row_of (after_withdrawal m w) w) access ≡ true
    unfolding after_withdrawal
    withdrawn_room Read room = refl
    withdrawn_room (Write value) room =
        ap (λ r. has_room r (Write value))
        (opened_row m.warp_rows w (waiting_there m.warp_rows w waits)) ∙ room

    -- It makes no difference whether the request is withdrawn before it is served or after.
    module _ (line : ℕ) where
      served_machine-withdrawal : (access : Access)
          → (served_on_free_line (after_withdrawal m w) w line access).machine
          ≡ after_withdrawal (served_on_free_line m w line access).machine w
      unfolding served_on_free_line after_withdrawal
      served_machine-withdrawal Read =
          ap (λ (r : WarpRow). with_book (after_withdrawal m w)
          (state_after_note k m.book line (r.stamp, w)))
          (opened_row m.warp_rows w (waiting_there m.warp_rows w waits))
      served_machine-withdrawal (Write value) =
          let rows = m.warp_rows in
          let row = warp_row_at rows w in
          let low = waiting_there rows w waits in
          let logged = set rows w (row_with_store row line value) in
          let at = get_or-set_same rows w (row_with_store row line value) (idle_row 0) low in
          ap (λ (r : WarpRow). built {k = k} m.lines
          (state_after_reserve k m.book line (r.stamp, w))
          (set (opened rows w) w (row_with_store r line value)) (queue_without m.queue w))
          (opened_row rows w low)
          ∙ ap (λ rs. built {k = k} m.lines (state_after_reserve k m.book line (row.stamp, w)) rs
          (queue_without m.queue w))
          (set-set rows w (row_in_phase row Open)
          (row_with_store (row_in_phase row Open) line value)
          ∙ sym (set-set rows w (row_with_store row line value)
          (row_in_phase (row_with_store row line value) Open))
          ∙ ap (λ (r : WarpRow). set logged w (row_in_phase r Open)) (sym at))

      served_outcome-withdrawal : (access : Access)
          → (served_on_free_line (after_withdrawal m w) w line access).outcome ≡
          (served_on_free_line m w line access).outcome
      unfolding served_on_free_line after_withdrawal
      served_outcome-withdrawal Read = refl
      served_outcome-withdrawal (Write value) = refl

      pub served_after_withdrawal :
          (mid after : MachineState k) (access : Access) (outcome : Outcome)
          → mid ≡ (served_on_free_line (after_withdrawal m w) w line access).machine
          → outcome ≡ (served_on_free_line (after_withdrawal m w) w line access).outcome
          → after ≡ with_outcome mid w outcome → after ≡ after_serving m w line access
      unfolding after_settling
      served_after_withdrawal mid after access outcome a b e =
          e ∙ ap (λ x. with_outcome x w outcome) (a ∙ served_machine-withdrawal access)
          ∙ ap (with_outcome (after_withdrawal (served_on_free_line m w line access).machine w)
          w) (b ∙ served_outcome-withdrawal access)

-- A served request leaves its warp open, and has no next stamp.
module _ {k : Kind} (m : MachineState k) (w line : ℕ) where
  pub served_open : (access : Access) → is_open (warp_row_of m w).phase ≡ true
      → is_open (warp_row_of (served_on_free_line m w line access).machine w).phase ≡ true
  unfolding served_on_free_line
  served_open Read here = here
  served_open (Write value) here =
      let rows = m.warp_rows in
      let row = warp_row_at rows w in
      ⊎_elim
      (λ low. ap (λ (r : WarpRow). is_open r.phase)
      (get_or-set_same rows w (row_with_store row line value) (idle_row 0) low) ∙ here)
      (λ past. ap (λ rs. is_open (warp_row_at rs w).phase)
      (set_past rows w (row_with_store row line value) past) ∙ here)
      (cases_lt w (length rows))

  pub served_on_time : (access : Access)
      → next_stamp (served_on_free_line m w line access).outcome ≤ highest_stamp
  unfolding served_on_free_line
  served_on_time Read = omega arith
  served_on_time (Write value) = omega arith
