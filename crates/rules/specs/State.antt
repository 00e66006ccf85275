-- The parts of the machine, and what they hold.
use Rattle.std.specs.Prelude.{ℕ, Bool, true, false, List, [], ◌∷◌, ◌++◌, slice_index_or, slice_set}
use Rattle.protocol.specs.declared.answer.Outcome.{Outcome}
use Rattle.memory.specs.Lines.{Lines}
use Rattle.book.specs.Meaning.{Kind}
use Rattle.book.specs.Time.{Time}
use Rattle.rules.specs.declared.state.Access.{Access}
use Rattle.rules.specs.declared.state.Phase.{Phase}
use Rattle.rules.specs.declared.state.Phase.TheVariants.{Idle, Open, Waiting, Settled}
use Rattle.rules.specs.declared.state.Request.{Request}
use Rattle.rules.specs.Logs.{LogEntry, log_entry}

-- A warp's row: what the warp is doing; its stamp, which orders its transactions in logical time;
-- and its log, the stores of its transaction in the order in which they were made.
pub record WarpRow : Type 0 where
  pub phase : Phase
  pub stamp : ℕ
  pub log : List LogEntry

-- The machine: the value of each memory line, the state of its version book, a row for each warp,
-- and the queue of waiting requests, oldest first. The book says which transactions may still load
-- or store a line.
pub record MachineState (k : Kind) : Type 0 where
  pub lines : Lines
  pub book : k.State
  pub warp_rows : List WarpRow
  pub queue : List Request

-- A request that waited and has got its outcome.
pub record SettledRequest : Type 0 where
  pub warp : ℕ
  pub line : ℕ
  pub access : Access
  pub outcome : Outcome

-- The row of a warp without a transaction.
abbrev pub idle_row : ℕ → WarpRow
idle_row stamp = record { phase = Idle; stamp = stamp; log = [] }

-- The row of a warp whose transaction has stored nothing yet.
abbrev pub open_row : ℕ → WarpRow
open_row stamp = record { phase = Open; stamp = stamp; log = [] }

-- The warp has no transaction.
abbrev pub is_idle : Phase → Bool
is_idle Idle = true
is_idle Open = false
is_idle Waiting = false
is_idle (Settled outcome) = false

-- The warp's last load or store waits.
abbrev pub is_waiting : Phase → Bool
is_waiting Idle = false
is_waiting Open = false
is_waiting Waiting = true
is_waiting (Settled outcome) = false

-- The row in another phase.
abbrev pub row_in_phase : WarpRow → Phase → WarpRow
row_in_phase warp_row phase = record warp_row { phase = phase }

-- The row with one more store in its log.
abbrev pub row_with_store : WarpRow → ℕ → ℕ → WarpRow
row_with_store warp_row line value =
    record warp_row { log = warp_row.log ++ log_entry line value ∷ [] }

-- The row of a warp, out of all rows. A warp that the machine lacks counts as idle.
abbrev pub warp_row_at : List WarpRow → ℕ → WarpRow
warp_row_at warp_rows w = slice_index_or warp_rows w (idle_row 0)

module _ {k : Kind} where
  -- The row of a warp of the machine.
  abbrev pub warp_row_of : MachineState k → ℕ → WarpRow
  warp_row_of m w = warp_row_at m.warp_rows w

  -- The logical time of a warp's transaction: its stamp, then its warp number.
  abbrev pub time_of : MachineState k → ℕ → Time
  time_of m w = ((warp_row_of m w).stamp, w)

  -- The machine with another memory.
  abbrev pub with_lines : MachineState k → Lines → MachineState k
  with_lines m lines = record m { lines = lines }

  -- The machine with another state of its book.
  abbrev pub with_book : MachineState k → k.State → MachineState k
  with_book m book = record m { book = book }

  -- The machine with another row for a warp.
  abbrev pub with_warp_row : MachineState k → ℕ → WarpRow → MachineState k
  with_warp_row m w warp_row = record m { warp_rows = slice_set m.warp_rows w warp_row }

  -- The machine with another queue.
  abbrev pub with_queue : MachineState k → List Request → MachineState k
  with_queue m queue = record m { queue = queue }
