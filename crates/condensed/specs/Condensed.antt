-- The condensed book: sixteen slots, a filter for all other lines, and the latest stamp.
use Rattle.std.specs.Prelude.{◌≡◌, ℕ, ◌+◌, ◌<◌, ◌≤◌, max, Bool, true, false, cond, ◌&&◌, List, map}
use Rattle.std.specs.Prelude.{length, get_or, replicate, is_some, Some, None, Option, ◌==◌, nat_lt}
use Rattle.std.specs.Prelude.{slice_index_or, slice_set}
use Rattle.std.specs.List.{list_any, position}
use Rattle.std.specs.Option.{option_map, option_map_or, option_or}
use Rattle.protocol.specs.Limits.{line_limit}
use Rattle.choice.specs.Rule.{choice_of}
use Rattle.book.specs.Time.{Time}
use Rattle.book.specs.Meaning.{Kind}
use Rattle.book.specs.Entries.{untouched_entry, no_stamps, free_entry, read_stamps}
use Rattle.book.specs.Entries.{entry_after_read, entry_after_reserve, entry_after_add}
use Rattle.book.specs.Entries.{entry_after_release, entry_stores, entry_owner}
use Rattle.condensed.specs.Filter.{FourWays, indices_of, filter_stamps, filter_raised_to, stamps_at}
use Rattle.book.specs.declared.entry.Entry.{Entry}
use Rattle.book.specs.declared.entry.Stamps.{Stamps}
use Rattle.condensed.specs.declared.slot.Occupant.{Occupant}
use Rattle.condensed.specs.declared.slot.Slot.{Slot}

-- The state of the book: its slots, the four ways of the filter, and the latest stamp.
pub record Condensed : Type 0 where
  pub slots : List Slot
  pub filter : List (List Stamps)
  pub latest : ℕ

abbrev pub condensed_of : List Slot → List (List Stamps) → ℕ → Condensed
condensed_of slots filter latest = record { slots = slots; filter = filter; latest = latest }

-- A slot that holds no line.
abbrev pub empty_slot : Slot
empty_slot = record { occupant = None }

-- A slot that holds a line with its entry.
abbrev pub slot_holding : ℕ → Entry → Slot
slot_holding line e = record { occupant = Some (record { line = line; entry = e }) }

-- Whether the line of a slot, if it has one, is a given line, or the line of another slot.
abbrev pub is_line : Option ℕ → ℕ → Bool
is_line held line = option_map_or (λ other. other == line) held false

abbrev pub same_line : Option ℕ → Option ℕ → Bool
same_line held other = option_map_or (is_line other) held false

-- The line in a slot, and its entry. An empty slot has the entry of a line that no call has named.
abbrev pub occupant_line : Option Occupant → Option ℕ
occupant_line = option_map (λ occupant. occupant.line)

abbrev pub occupant_entry : Option Occupant → Entry
occupant_entry occupant = option_map_or (λ there. there.entry) occupant untouched_entry

abbrev pub slot_line : Slot → Option ℕ
slot_line slot = occupant_line slot.occupant

abbrev pub slot_entry : Slot → Entry
slot_entry slot = occupant_entry slot.occupant

abbrev pub slot_holds : Slot → ℕ → Bool
slot_holds slot line = is_line (slot_line slot) line

-- The slot that a line is in, if it is in one.
unfoldable pub slot_of : List Slot → ℕ → Option ℕ
slot_of slots line = position (λ slot. slot_holds slot line) slots

-- A slot's key, for the choice of a free slot: its line's write stamp, or 0 if it is empty. A
-- reserved slot is not allowed.
abbrev pub occupant_key : Option Occupant → Option ℕ
occupant_key None = Some 0
occupant_key (Some there) =
    cond (entry_stores there.entry == 0) (Some there.entry.stamps.write) None

abbrev pub slot_key : Slot → Option ℕ
slot_key slot = occupant_key slot.occupant

-- One of the slots is free.
abbrev pub any_free : List Slot → Bool
any_free slots = list_any (λ slot. is_some (slot_key slot)) slots

-- The slot for a line that is to be reserved: the one that it is in, or else the one that is
-- chosen.
abbrev pub slot_or_choice : List Slot → Option ℕ → Option ℕ
slot_or_choice slots inside = option_or inside (choice_of (map slot_key slots))

abbrev pub slot_for : List Slot → ℕ → Option ℕ
slot_for slots line = slot_or_choice slots (slot_of slots line)

-- The entry of a line is that of its slot. A line in no slot has the stamps of the filter.
abbrev pub entry_from : List Slot → List (List Stamps) → ℕ → Option ℕ → Entry
entry_from slots filter line None = free_entry (filter_stamps filter (indices_of line))
entry_from slots filter line (Some index) = slot_entry (get_or slots index empty_slot)

-- A line takes a slot: another line that was in it is evicted, and raises its entries of the filter
-- to its stamps.
abbrev pub filter_raised_for : List (List Stamps) → Stamps → ℕ → Option ℕ → List (List Stamps)
filter_raised_for filter stamps line None = filter
filter_raised_for filter stamps line (Some evicted) =
    cond (evicted == line) filter (filter_raised_to filter (indices_of evicted) stamps)

abbrev pub filter_after_eviction : List (List Stamps) → Slot → ℕ → List (List Stamps)
filter_after_eviction filter slot line =
    filter_raised_for filter (slot_entry slot).stamps line (slot_line slot)

module _ (s : Condensed) where
  -- The entry of a line, by the slot that it is in. A line past the last has the entry of a line
  -- that no call has named.
  abbrev pub entry_by_slot : ℕ → Option ℕ → Entry
  entry_by_slot line inside =
      cond (nat_lt line line_limit) (entry_from s.slots s.filter line inside) untouched_entry

  abbrev pub line_entry : ℕ → Entry
  line_entry line = entry_by_slot line (slot_of s.slots line)

  -- The state after the line of a slot is evicted for another.
  abbrev pub after_eviction : ℕ → ℕ → Condensed
  after_eviction line index =
      record {
        slots = s.slots;
        filter = filter_after_eviction s.filter (slice_index_or s.slots index empty_slot) line;
        latest = s.latest;
      }

  -- A line and its entry are written into a slot, and the latest stamp is raised if it is earlier.
  abbrev pub slots_with : ℕ → ℕ → Entry → List Slot
  slots_with line index e = slice_set s.slots index (slot_holding line e)

  abbrev pub with_slot : ℕ → ℕ → Entry → ℕ → Condensed
  with_slot line index e stamp =
      record {
        slots = slots_with line index e;
        filter = s.filter;
        latest = max s.latest stamp;
      }

module _ (s : Condensed) (line : ℕ) where
  -- A read raises the line's mark in its slot, or else in the filter. It takes no slot.
  abbrev pub after_note : Time → Option ℕ → Condensed
  after_note t None =
      record {
        slots = s.slots;
        filter = filter_raised_to s.filter (indices_of line) (read_stamps t);
        latest = max s.latest t.0;
      }
  after_note t (Some index) =
      with_slot s line index (entry_after_read (slot_entry (get_or s.slots index empty_slot)) t) t.0

  -- A reservation: the slot's entry is made from the line's entry before the call.
  abbrev pub after_reserve : Time → Option ℕ → Condensed
  after_reserve t None = s
  after_reserve t (Some index) =
      with_slot (after_eviction s line index) line index (entry_after_reserve (line_entry s line) t)
      (t.0 + 1)

  -- Other calls change the entry of the line in its slot, and nothing else.
  abbrev pub after_change : (Entry → Entry) → Option ℕ → Condensed
  after_change change None = s
  after_change change (Some index) =
      with_slot s line index (change (slot_entry (get_or s.slots index empty_slot))) 0

-- Neither stamp is later than a given one.
abbrev pub IsBounded : Stamps → ℕ → Type 0
IsBounded stamps latest = (stamps.write ≤ latest) × (stamps.read.0 ≤ latest)

-- A sound state has sixteen slots, and its filter has four ways of 64 entries.
abbrev pub HasSixteenSlots : List Slot → Type 0
HasSixteenSlots slots = length slots ≡ 16

-- In a sound state, no line is in two slots.
abbrev pub HoldDistinctLines : List Slot → Type 0
HoldDistinctLines slots =
    (i j : ℕ)
    → same_line (slot_line (get_or slots i empty_slot)) (slot_line (get_or slots j empty_slot))
    ≡ true
    → i ≡ j

-- In a sound state, each line in a slot is below the limit.
abbrev pub HoldNumberedLines : List Slot → Type 0
HoldNumberedLines slots = (i n : ℕ) → slot_holds (slice_index_or slots i empty_slot) n ≡ true
    → n < line_limit

-- In a sound state, no stamp in a slot or in the filter is later than the latest stamp.
abbrev pub SlotsWrittenUpTo : List Slot → ℕ → Type 0
SlotsWrittenUpTo slots latest = (i : ℕ)
    → (slot_entry (get_or slots i empty_slot)).stamps.write ≤ latest

abbrev pub SlotsReadUpTo : List Slot → ℕ → Type 0
SlotsReadUpTo slots latest = (i : ℕ)
    → (slot_entry (get_or slots i empty_slot)).stamps.read.0 ≤ latest

abbrev pub FilterWrittenUpTo : List (List Stamps) → ℕ → Type 0
FilterWrittenUpTo filter latest = (way i : ℕ) → (stamps_at filter way i).write ≤ latest

abbrev pub FilterReadUpTo : List (List Stamps) → ℕ → Type 0
FilterReadUpTo filter latest = (way i : ℕ) → (stamps_at filter way i).read.0 ≤ latest

-- In a sound state, every reserved slot has a write stamp above 0.
abbrev pub SlotsStamped : List Slot → Type 0
SlotsStamped slots =
    (i : ℕ) → 0 < entry_stores (slot_entry (get_or slots i empty_slot))
    → 0 < (slot_entry (get_or slots i empty_slot)).stamps.write

-- A state is sound if all of these hold.
pub record IsSound (s : Condensed) : Type 0 where
  pub sixteen : HasSixteenSlots s.slots
  pub four_ways : FourWays s.filter
  pub apart : HoldDistinctLines s.slots
  pub numbered : HoldNumberedLines s.slots
  pub slots_written : SlotsWrittenUpTo s.slots s.latest
  pub slots_read : SlotsReadUpTo s.slots s.latest
  pub filter_written : FilterWrittenUpTo s.filter s.latest
  pub filter_read : FilterReadUpTo s.filter s.latest
  pub slots_stamped : SlotsStamped s.slots

-- The condensed book, with sixteen slots.
abbrev pub condensed : Kind
condensed =
    record {
      State = Condensed;
      Good = IsSound;
      slots = λ _. 16;
      write_stamp = λ s line. (line_entry s line).stamps.write;
      read_mark = λ s line. (line_entry s line).stamps.read;
      stores = λ s line. entry_stores (line_entry s line);
      owner = λ s line. entry_owner (line_entry s line);
      has_slot = λ s line. nat_lt line line_limit && is_some (slot_for s.slots line);
      latest = λ s. s.latest;
      note = λ s line t. after_note s line t (slot_of s.slots line);
      reserve = λ s line t. after_reserve s line t (slot_for s.slots line);
      add = λ s line. after_change s line entry_after_add (slot_of s.slots line);
      release = λ s line. after_change s line entry_after_release (slot_of s.slots line);
    }

-- A new book: its slots are empty, and no entry of the filter has a stamp.
abbrev pub condensed_new : Condensed
condensed_new =
    record {
      slots = replicate 16 empty_slot;
      filter = replicate 4
          (replicate 64 no_stamps);
      latest = 0;
    }
