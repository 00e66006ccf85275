-- What a version book says of each line, what its calls do, and the laws of every book.
use Rattle.std.specs.Prelude.{◌≡◌, ℕ, zero, suc, ◌+◌, ◌<◌, ◌≤◌, max, Bool, true, false, cond, not}
use Rattle.std.specs.Prelude.{◌&&◌, Some, None, Option, ◌==◌, ◌≢◌, nat_le, nat_lt}
use Rattle.protocol.specs.Limits.{line_limit, warp_limit, log_limit, last_stamp}
use Rattle.book.specs.Time.{Time, earlier}

-- A kind of book: its states, what a state says of each line, and the state after each granted
-- call.
pub record Kind : Type 1 where
  pub State : Type 0
  -- the sound states, which each kind defines for itself
  pub Good : State → Type 0
  -- the maximum number of lines that can be reserved at once
  pub slots : State → ℕ
  pub write_stamp : State → ℕ → ℕ
  pub read_mark : State → ℕ → Time
  -- the number of stores that hold the line reserved
  pub stores : State → ℕ → ℕ
  pub owner : State → ℕ → Option ℕ
  pub has_slot : State → ℕ → Bool
  pub latest : State → ℕ
  -- a line is read at a time, or reserved at a time by that time's warp
  pub note : State → ℕ → Time → State
  pub reserve : State → ℕ → Time → State
  pub add : State → ℕ → State
  pub release : State → ℕ → State

-- The number of lines below a limit that pass a test.
abbrev pub count_below : (ℕ → Bool) → ℕ → ℕ
count_below test zero = 0
count_below test (suc n) = cond (test n) 1 0 + count_below test n

-- A time that a call may name: its stamp is not past the end of the clock, and there is such a
-- warp.
abbrev pub is_valid_time : Time → Bool
is_valid_time t = nat_le t.0 last_stamp && nat_lt t.1 warp_limit

module _ (k : Kind) (s : k.State) where
  -- A line is reserved while stores hold it.
  abbrev pub is_reserved : ℕ → Bool
  is_reserved line = not (k.stores s line == 0)

  abbrev pub reserved_count : ℕ
  reserved_count = count_below is_reserved line_limit

  -- A read is granted if the line exists and the time is valid.
  abbrev pub can_note : ℕ → Time → Bool
  can_note line t = nat_lt line line_limit && is_valid_time t

  -- A reservation also needs an unreserved line with a slot.
  abbrev pub can_reserve : ℕ → Time → Bool
  can_reserve line t = can_note line t && (not (is_reserved line) && k.has_slot s line)

  -- One more store is granted if the line exists, and is reserved with fewer stores than the
  -- maximum number.
  abbrev pub can_add : ℕ → Bool
  can_add line = nat_lt line line_limit && (is_reserved line && nat_lt (k.stores s line) log_limit)

  -- A release is granted if the line exists.
  abbrev pub can_release : ℕ → Bool
  can_release line = nat_lt line line_limit

  -- The state after a call. A refused call changes nothing.
  abbrev pub state_after_note : ℕ → Time → k.State
  state_after_note line t = cond (can_note line t) (k.note s line t) s

  abbrev pub state_after_reserve : ℕ → Time → k.State
  state_after_reserve line t = cond (can_reserve line t) (k.reserve s line t) s

  abbrev pub state_after_add : ℕ → k.State
  state_after_add line = cond (can_add line) (k.add s line) s

  abbrev pub state_after_release : ℕ → k.State
  state_after_release line = cond (can_release line) (k.release s line) s

  -- What holds of each line in a sound state.
  pub record IsSoundLine (line : ℕ) : Type 0 where
    -- neither stamp is later than the latest stamp
    pub stamp_bound : k.write_stamp s line ≤ k.latest s
    pub mark_bound : (k.read_mark s line).0 ≤ k.latest s
    -- a reserved line has an owner, a write stamp above 0 and a slot, and an unreserved line has no
    -- owner
    pub owned : is_reserved line ≡ true → (w : ℕ) × (k.owner s line ≡ Some w)
    pub stamped : is_reserved line ≡ true → 0 < k.write_stamp s line
    pub placed : is_reserved line ≡ true → k.has_slot s line ≡ true
    pub ownerless : is_reserved line ≡ false → k.owner s line ≡ None
    -- every line has a slot while fewer lines are reserved than there are slots
    pub room : reserved_count < k.slots s → k.has_slot s line ≡ true

  -- A new book has no stamp, no reservation, and a slot for every line.
  pub record IsNew : Type 0 where
    pub no_latest : k.latest s ≡ 0
    pub no_stamp : (line : ℕ) → line < line_limit → k.write_stamp s line ≡ 0
    pub no_mark : (line : ℕ) → line < line_limit → k.read_mark s line ≡ (0, 0)
    pub no_store : (line : ℕ) → line < line_limit → k.stores s line ≡ 0
    pub no_owner : (line : ℕ) → line < line_limit → k.owner s line ≡ None
    pub free_slot : (line : ℕ) → line < line_limit → k.has_slot s line ≡ true

module _ (k : Kind) (s s' : k.State) where
  -- No write stamp and no read mark gets earlier.
  pub record StampsGrow : Type 0 where
    pub stamp_grows : (n : ℕ) → n < line_limit → k.write_stamp s n ≤ k.write_stamp s' n
    pub mark_grows : (n : ℕ) → n < line_limit → earlier (k.read_mark s' n) (k.read_mark s n) ≡ false

  -- A line's reservation stays as it is.
  pub record KeepsReservation (n : ℕ) : Type 0 where
    pub same_stores : k.stores s' n ≡ k.stores s n
    pub same_owner : k.owner s' n ≡ k.owner s n

  -- A read raises the line's mark to its time, and changes no reservation.
  pub record Notes (line : ℕ) (t : Time) : Type 0 where
    pub grows : StampsGrow
    pub reaches : earlier (k.read_mark s' line) t ≡ false
    pub stays : (n : ℕ) → n < line_limit → KeepsReservation n
    pub latest_bound : k.latest s' ≤ max (k.latest s) t.0
    pub same_slots : k.slots s' ≡ k.slots s

  -- A reservation gives the line one store, made by the time's warp, and raises the write stamp
  -- above the time's.
  pub record Reserves (line : ℕ) (t : Time) : Type 0 where
    pub grows : StampsGrow
    pub one_store : k.stores s' line ≡ 1
    pub its_owner : k.owner s' line ≡ Some t.1
    pub passes : t.0 < k.write_stamp s' line
    pub stays : (n : ℕ) → n < line_limit → (n ≢ line) → KeepsReservation n
    pub latest_bound : k.latest s' ≤ max (k.latest s) (t.0 + 1)
    pub same_slots : k.slots s' ≡ k.slots s

  -- An add counts one more store and keeps the owner.
  pub record Adds (line : ℕ) : Type 0 where
    pub grows : StampsGrow
    pub one_more : k.stores s' line ≡ k.stores s line + 1
    pub same_owner : k.owner s' line ≡ k.owner s line
    pub stays : (n : ℕ) → n < line_limit → (n ≢ line) → KeepsReservation n
    pub latest_bound : k.latest s' ≤ k.latest s
    pub same_slots : k.slots s' ≡ k.slots s

  -- A release leaves no store.
  pub record Releases (line : ℕ) : Type 0 where
    pub grows : StampsGrow
    pub no_stores : k.stores s' line ≡ 0
    pub stays : (n : ℕ) → n < line_limit → (n ≢ line) → KeepsReservation n
    pub latest_bound : k.latest s' ≤ k.latest s
    pub same_slots : k.slots s' ≡ k.slots s

-- The laws of every book, in every sound state.
pub record Keeps (k : Kind) : Type 0 where
  -- there is at least one slot, and at most as many lines are reserved as there are slots
  pub some_slot : (s : k.State) → k.Good s → 0 < k.slots s
  pub within_slots : (s : k.State) → k.Good s → reserved_count k s ≤ k.slots s
  pub tells : (s : k.State) → k.Good s → (line : ℕ) → line < line_limit → IsSoundLine k s line
  pub notes :
      (s : k.State) → k.Good s → (line : ℕ) (t : Time) → can_note k s line t ≡ true
      → k.Good (k.note s line t) × Notes k s (k.note s line t) line t
  pub reserves :
      (s : k.State) → k.Good s → (line : ℕ) (t : Time) → can_reserve k s line t ≡ true
      → k.Good (k.reserve s line t) × Reserves k s (k.reserve s line t) line t
  pub adds :
      (s : k.State) → k.Good s → (line : ℕ) → can_add k s line ≡ true
      → k.Good (k.add s line) × Adds k s (k.add s line) line
  pub releases :
      (s : k.State) → k.Good s → (line : ℕ) → can_release k s line ≡ true
      → k.Good (k.release s line) × Releases k s (k.release s line) line
