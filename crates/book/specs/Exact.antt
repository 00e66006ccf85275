-- The exact book: an entry for each line, and the latest stamp.
use Rattle.std.specs.Prelude.{◌≡◌, ℕ, ◌+◌, ◌<◌, ◌≤◌, max, List, length, get_or, replicate, nat_lt}
use Rattle.std.specs.Prelude.{slice_index_or, slice_set}
use Rattle.protocol.specs.Limits.{line_limit}
use Rattle.book.specs.Meaning.{Kind}
use Rattle.book.specs.Entries.{untouched_entry, entry_after_read, entry_after_reserve}
use Rattle.book.specs.Entries.{entry_after_add, entry_after_release, entry_stores, entry_owner}
use Rattle.book.specs.declared.entry.Entry.{Entry}

-- The state of the book: an entry for each line, line 0 first, and the latest stamp.
pub record Exact : Type 0 where
  pub entries : List Entry
  pub latest : ℕ

abbrev pub exact_of : List Entry → ℕ → Exact
exact_of entries latest = record { entries = entries; latest = latest }

-- A sound state has an entry for each line.
abbrev pub HasAllLines : List Entry → Type 0
HasAllLines entries = length entries ≡ line_limit

-- In a sound state, no write stamp and no read mark is later than the latest stamp.
abbrev pub EntriesWrittenUpTo : List Entry → ℕ → Type 0
EntriesWrittenUpTo entries latest = (n : ℕ)
    → (get_or entries n untouched_entry).stamps.write ≤ latest

abbrev pub EntriesReadUpTo : List Entry → ℕ → Type 0
EntriesReadUpTo entries latest = (n : ℕ) → (get_or entries n untouched_entry).stamps.read.0 ≤ latest

-- In a sound state, every line that stores hold has a write stamp above 0.
abbrev pub HeldEntriesStamped : List Entry → Type 0
HeldEntriesStamped entries =
    (n : ℕ) → 0 < entry_stores (get_or entries n untouched_entry)
    → 0 < (get_or entries n untouched_entry).stamps.write

-- A state is sound if all of these hold.
pub record IsSound (s : Exact) : Type 0 where
  pub whole : HasAllLines s.entries
  pub written : EntriesWrittenUpTo s.entries s.latest
  pub read : EntriesReadUpTo s.entries s.latest
  pub stamped : HeldEntriesStamped s.entries

-- An entry that a sound state with this latest stamp may have.
abbrev pub FitsWithin : ℕ → Entry → Type 0
FitsWithin latest e =
    (e.stamps.write ≤ latest) × (e.stamps.read.0 ≤ latest)
    × (0 < entry_stores e → 0 < e.stamps.write)

module _ (s : Exact) where
  -- The entry of a line. A line past the last has the entry of a line that no call has named.
  abbrev pub entry_at : ℕ → Entry
  entry_at line = slice_index_or s.entries line untouched_entry

  -- A call sets the entry of its line, and raises the latest stamp if it is earlier.
  abbrev pub with_entry : ℕ → Entry → ℕ → Exact
  with_entry line e stamp =
      record { entries = slice_set s.entries line e; latest = max s.latest stamp }

-- The exact book has a slot for each line, and each call changes the entry of its line alone.
abbrev pub exact : Kind
exact =
    record {
      State = Exact;
      Good = IsSound;
      slots = λ _. line_limit;
      write_stamp = λ s line. (entry_at s line).stamps.write;
      read_mark = λ s line. (entry_at s line).stamps.read;
      stores = λ s line. entry_stores (entry_at s line);
      owner = λ s line. entry_owner (entry_at s line);
      has_slot = λ s line. nat_lt line line_limit;
      latest = λ s. s.latest;
      note = λ s line t. with_entry s line (entry_after_read (entry_at s line) t) t.0;
      reserve = λ s line t. with_entry s line (entry_after_reserve (entry_at s line) t) (t.0 + 1);
      add = λ s line. with_entry s line (entry_after_add (entry_at s line)) 0;
      release = λ s line. with_entry s line (entry_after_release (entry_at s line)) 0;
    }

-- A new book: no call has named a line.
abbrev pub exact_new : Exact
exact_new = record { entries = replicate line_limit untouched_entry; latest = 0 }
