-- Loads and stores that go on: their outcome, and what they change in the book and in the log. A
-- call that the book refuses leaves the book as it was; in a run it refuses none of these.
use Rattle.std.specs.Prelude.{ℕ}
use Rattle.std.specs.Option.{unwrap_or}
use Rattle.protocol.specs.declared.answer.Outcome.{Outcome}
use Rattle.protocol.specs.declared.answer.Outcome.TheVariants.{Value, Stored}
use Rattle.book.specs.Meaning.{Kind, state_after_note, state_after_reserve, state_after_add}
use Rattle.rules.specs.declared.state.Access.{Access}
use Rattle.rules.specs.declared.state.Access.TheVariants.{Read, Write}
use Rattle.rules.specs.Logs.{last_stored}
use Rattle.rules.specs.State.{MachineState, row_with_store, warp_row_of, time_of, with_book}
use Rattle.rules.specs.State.{with_warp_row}

-- What a served load or store leaves: the machine and the outcome.
pub record Served (k : Kind) : Type 0 where
  pub machine : MachineState k
  pub outcome : Outcome

module _ {k : Kind} where
  -- The value of a line in memory. A load of a line that the memory lacks is refused earlier; here
  -- it would give 0.
  abbrev pub memory_value : MachineState k → ℕ → ℕ
  memory_value m line = unwrap_or (m.lines line) 0

  -- The machine after the book has noted a read of the line by the warp.
  abbrev pub with_read_noted : MachineState k → ℕ → ℕ → MachineState k
  with_read_noted m w line = with_book m (state_after_note k m.book line (time_of m w))

  -- The machine after a store is added to the warp's log.
  abbrev pub with_store_logged : MachineState k → ℕ → ℕ → ℕ → MachineState k
  with_store_logged m w line value = with_warp_row m w (row_with_store (warp_row_of m w) line value)

  -- On a line that nobody has reserved, a load gives the value in memory, and a store reserves the
  -- line.
  unfoldable pub served_on_free_line : MachineState k → ℕ → ℕ → Access → Served k
  served_on_free_line m w line Read =
      record { machine = with_read_noted m w line; outcome = Value (memory_value m line) }
  served_on_free_line m w line (Write value) =
      let reserved = with_book m (state_after_reserve k m.book line (time_of m w)) in
      record { machine = with_store_logged reserved w line value; outcome = Stored }

  -- On a line that the warp has reserved, a load gives the last value that the warp logged for it,
  -- and a store adds one to the line's count. In a run the log always has such a value; without one
  -- the load would give the value in memory.
  unfoldable pub served_on_own_line : MachineState k → ℕ → ℕ → Access → Served k
  served_on_own_line m w line Read =
      record {
        machine = with_read_noted m w line;
        outcome = Value (unwrap_or (last_stored (warp_row_of m w).log line) (memory_value m line));
      }
  served_on_own_line m w line (Write value) =
      let counted = with_book m (state_after_add k m.book line) in
      record { machine = with_store_logged counted w line value; outcome = Stored }
