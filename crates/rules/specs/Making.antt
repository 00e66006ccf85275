-- A new machine, from a memory, a book and the first stamp of each warp.
use Rattle.std.specs.Prelude.{ℕ, ◌&&◌, List, [], map, length, find, Some, None, Option}
use Rattle.std.specs.Prelude.{◌==◌, nat_le, nat_lt}
use Rattle.std.specs.Option.{option_map, option_or}
use Rattle.protocol.specs.Faults.{fault_in_call}
use Rattle.protocol.specs.Limits.{warp_limit, last_stamp}
use Rattle.protocol.specs.declared.fault.Fault.{Fault}
use Rattle.protocol.specs.declared.fault.Refusal.TheVariants.{BadSize, BadStamp}
use Rattle.memory.specs.Lines.{Lines}
use Rattle.book.specs.Meaning.{Kind}
use Rattle.rules.specs.State.{WarpRow, MachineState, idle_row}
use Rattle.rules.specs.Refusals.{fault_unless}

-- The first of some stamps that is past the end of the clock, if any.
abbrev pub first_late_stamp : List ℕ → Option ℕ
first_late_stamp stamps = find (λ stamp. nat_lt last_stamp stamp) stamps

-- The fault for such a stamp.
abbrev pub late_stamp_fault : Option ℕ → Option Fault
late_stamp_fault stamp = option_map (fault_in_call BadStamp) stamp

-- The rows of a new machine. A machine that is refused has no warps, so it refuses every call.
abbrev pub first_warp_rows : Option Fault → List ℕ → List WarpRow
first_warp_rows None stamps = map idle_row stamps
first_warp_rows (Some fault) stamps = []

module _ (k : Kind) where
  -- The fault of a new machine, if it is refused: it has no warps or too many, a first stamp is
  -- past the end of the clock, or its book is not new.
  abbrev pub making_fault : k.State → List ℕ → Option Fault
  making_fault book stamps =
      let count = length stamps in
      let latest = k.latest book in
      option_or (fault_unless (nat_lt 0 count && nat_le count warp_limit) BadSize count)
      (option_or (late_stamp_fault (first_late_stamp stamps))
      (fault_unless (latest == 0) BadStamp latest))

  -- A new machine: every warp is idle at its first stamp, and no request waits.
  abbrev pub new_machine : Lines → k.State → List ℕ → MachineState k
  new_machine lines book stamps =
      record {
        lines = lines;
        book = book;
        warp_rows = first_warp_rows (making_fault book stamps) stamps;
        queue = [];
      }
