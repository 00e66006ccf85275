-- What a book keeps of a line, and what each call does to it.
use Rattle.std.specs.Prelude.{ℕ, zero, suc, ◌+◌, min, max, cond, Some, None, Option, unwrap_or}
use Rattle.std.specs.Option.{option_map, option_map_or}
use Rattle.std.proofs.Math.Nat.{zero-lt-suc}
use Rattle.book.specs.Time.{Time, earlier}
use Rattle.book.specs.declared.entry.Stamps.{Stamps}
use Rattle.book.specs.declared.entry.Hold.{Hold}
use Rattle.book.specs.declared.entry.Entry.{Entry}

-- The later and the earlier of two times. Of equals it is the first.
abbrev pub later_of : Time → Time → Time
later_of a b = cond (earlier a b) b a

abbrev pub earlier_of : Time → Time → Time
earlier_of a b = cond (earlier b a) b a

-- The later and the earlier of each of two stamps.
abbrev pub later_stamps : Stamps → Stamps → Stamps
later_stamps a b = record { write = max a.write b.write; read = later_of a.read b.read }

abbrev pub earlier_stamps : Stamps → Stamps → Stamps
earlier_stamps a b = record { write = min a.write b.write; read = earlier_of a.read b.read }

-- The stamps that a read sets, and those that a write sets.
abbrev pub read_stamps : Time → Stamps
read_stamps t = record { write = 0; read = t }

abbrev pub write_stamps : ℕ → Stamps
write_stamps stamp = record { write = stamp; read = (0, 0) }

-- A line that no call has named.
abbrev pub no_stamps : Stamps
no_stamps = record { write = 0; read = (0, 0) }

abbrev pub untouched_entry : Entry
untouched_entry = record { stamps = no_stamps; hold = None }

-- A line that no store holds.
abbrev pub free_entry : Stamps → Entry
free_entry stamps = record { stamps = stamps; hold = None }

-- The number of stores that hold a line, and their warp, which owns the line.
abbrev pub hold_stores : Option Hold → ℕ
hold_stores hold = option_map_or (λ h. h.stores) hold 0

abbrev pub hold_owner : Option Hold → Option ℕ
hold_owner = option_map (λ hold. hold.warp)

abbrev pub entry_stores : Entry → ℕ
entry_stores e = hold_stores e.hold

abbrev pub entry_owner : Entry → Option ℕ
entry_owner e = hold_owner e.hold

-- The hold of a number of stores by a warp; none for 0 stores.
abbrev pub hold_of : ℕ → ℕ → Option Hold
hold_of warp zero = None
hold_of warp (suc n) = Some (record { warp = warp; stores = suc n; some = zero-lt-suc n })

-- A line that a warp reserves, its write stamp raised to a stamp; a line with another number of
-- stores.
abbrev pub reserved_entry : Entry → ℕ → ℕ → Entry
reserved_entry e warp stamp =
    record { stamps = later_stamps e.stamps (write_stamps stamp); hold = hold_of warp 1 }

abbrev pub entry_with_stores : Entry → ℕ → Entry
entry_with_stores e stores =
    record { stamps = e.stamps; hold = hold_of (unwrap_or (entry_owner e) 0) stores }

-- A line after each call. A read raises its read mark. A reservation makes the time's warp the
-- owner and raises the write stamp past the time's stamp. An add counts one more store. A release
-- keeps the stamps.
abbrev pub entry_after_read : Entry → Time → Entry
entry_after_read e t = record { stamps = later_stamps e.stamps (read_stamps t); hold = e.hold }

abbrev pub entry_after_reserve : Entry → Time → Entry
entry_after_reserve e t = reserved_entry e t.1 (t.0 + 1)

abbrev pub entry_after_add : Entry → Entry
entry_after_add e = entry_with_stores e (entry_stores e + 1)

abbrev pub entry_after_release : Entry → Entry
entry_after_release e = entry_with_stores e 0
