-- Refusals: which calls are refused, and why. Of several reasons the one with the lowest number
-- counts.
use Rattle.std.specs.Prelude.{ℕ, Bool, cond, ◌&&◌, length, is_some, Some, None, Option, nat_le}
use Rattle.std.specs.Prelude.{nat_lt}
use Rattle.std.specs.Option.{option_map, option_or}
use Rattle.protocol.specs.Faults.{fault_in_call}
use Rattle.protocol.specs.Limits.{line_limit, log_limit, last_stamp}
use Rattle.protocol.specs.declared.call.Call.{Call}
use Rattle.protocol.specs.declared.call.Op.{Op}
use Rattle.protocol.specs.declared.call.Op.TheVariants.{Begin, Load, Store, Commit, Drop, Fetch}
use Rattle.protocol.specs.declared.fault.Fault.{Fault}
use Rattle.protocol.specs.declared.fault.Refusal.{Refusal}
use Rattle.protocol.specs.declared.fault.Refusal.TheVariants.{NoSuchWarp, WarpIdle, WarpNotIdle}
use Rattle.protocol.specs.declared.fault.Refusal.TheVariants.{OutcomePending}
use Rattle.protocol.specs.declared.fault.Refusal.TheVariants.{NothingToFetch, NoSuchLine, LogFull}
use Rattle.protocol.specs.declared.fault.Refusal.TheVariants.{ClockSpent}
use Rattle.book.specs.Meaning.{Kind}
use Rattle.rules.specs.declared.state.Phase.{Phase}
use Rattle.rules.specs.declared.state.Phase.TheVariants.{Idle, Open, Waiting, Settled}
use Rattle.rules.specs.State.{MachineState, warp_row_of}

-- What a warp without a transaction may not ask for.
abbrev pub idle_refusal : Op → Option Refusal
idle_refusal Begin = None
idle_refusal (Load line) = Some WarpIdle
idle_refusal (Store line value) = Some WarpIdle
idle_refusal Commit = Some WarpIdle
idle_refusal Drop = Some WarpIdle
idle_refusal Fetch = Some WarpIdle

-- What a warp may not ask for while its transaction can go on.
abbrev pub open_refusal : Op → Option Refusal
open_refusal Begin = Some WarpNotIdle
open_refusal (Load line) = None
open_refusal (Store line value) = None
open_refusal Commit = None
open_refusal Drop = None
open_refusal Fetch = Some NothingToFetch

-- What a warp may not ask for until it has fetched the outcome of a load or a store that waited.
abbrev pub pending_refusal : Op → Option Refusal
pending_refusal Begin = Some WarpNotIdle
pending_refusal (Load line) = Some OutcomePending
pending_refusal (Store line value) = Some OutcomePending
pending_refusal Commit = Some OutcomePending
pending_refusal Drop = Some OutcomePending
pending_refusal Fetch = None

-- What a warp may not ask for in a phase.
abbrev pub phase_refusal : Phase → Op → Option Refusal
phase_refusal Idle op = idle_refusal op
phase_refusal Open op = open_refusal op
phase_refusal Waiting op = pending_refusal op
phase_refusal (Settled outcome) op = pending_refusal op

-- The fault for a refusal, if there is one: the refusal with the offending number.
abbrev pub refusal_fault : Option Refusal → ℕ → Option Fault
refusal_fault refusal number = option_map (λ why. fault_in_call why number) refusal

-- The fault for a refusal with a number, unless a test holds.
abbrev pub fault_unless : Bool → Refusal → ℕ → Option Fault
fault_unless test why number = cond test None (Some (fault_in_call why number))

module _ {k : Kind} where
  -- A load or a store may name the line: the memory has it, and a book can number it.
  abbrev pub has_line : MachineState k → ℕ → Bool
  has_line m line = nat_lt line line_limit && is_some (m.lines line)

  -- The fault of a call with a bad number: the clock has run out, there is no such line, or the log
  -- is full.
  abbrev pub number_fault : MachineState k → ℕ → Op → Option Fault
  number_fault m w Begin =
      let stamp = (warp_row_of m w).stamp in fault_unless (nat_le stamp last_stamp) ClockSpent stamp
  number_fault m w (Load line) = fault_unless (has_line m line) NoSuchLine line
  number_fault m w (Store line value) =
      let logged = length (warp_row_of m w).log in
      option_or (fault_unless (has_line m line) NoSuchLine line)
      (fault_unless (nat_lt logged log_limit) LogFull logged)
  number_fault m w Commit = None
  number_fault m w Drop = None
  number_fault m w Fetch = None

  -- The fault of a call, if it is refused: the first one in the order of the refusals.
  abbrev pub fault_of : MachineState k → Call → Option Fault
  fault_of m call =
      option_or (fault_unless (nat_lt call.warp (length m.warp_rows)) NoSuchWarp call.warp)
      (option_or (refusal_fault (phase_refusal (warp_row_of m call.warp).phase call.op) call.warp)
      (number_fault m call.warp call.op))
