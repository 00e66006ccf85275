-- The numbers of the refusals, and the layer of each.
use Rattle.std.specs.Prelude.{◌≡◌, ℕ}
use Rattle.protocol.specs.declared.fault.Fault.{Fault}
use Rattle.protocol.specs.declared.fault.Layer.{Layer}
use Rattle.protocol.specs.declared.fault.Layer.TheVariants.{Memory, File, Machine}
use Rattle.protocol.specs.declared.fault.Refusal.{Refusal}
use Rattle.protocol.specs.declared.fault.Refusal.TheVariants.{NoSuchWarp, WarpIdle, WarpNotIdle}
use Rattle.protocol.specs.declared.fault.Refusal.TheVariants.{OutcomePending}
use Rattle.protocol.specs.declared.fault.Refusal.TheVariants.{NothingToFetch, NoSuchLine, LogFull}
use Rattle.protocol.specs.declared.fault.Refusal.TheVariants.{ClockSpent}
use Rattle.protocol.specs.declared.fault.Refusal.TheVariants.{BadSize, BadStamp, BadMark}
use Rattle.protocol.specs.declared.fault.Refusal.TheVariants.{BadVersion, CutShort}
use Rattle.protocol.specs.declared.fault.Refusal.TheVariants.{BadLetter, TooManyRows}

-- The number that listings print for a refusal.
abbrev pub refusal_number : Refusal → ℕ
refusal_number NoSuchWarp = 1
refusal_number WarpIdle = 2
refusal_number WarpNotIdle = 3
refusal_number OutcomePending = 4
refusal_number NothingToFetch = 5
refusal_number NoSuchLine = 6
refusal_number LogFull = 7
refusal_number ClockSpent = 8
refusal_number BadSize = 9
refusal_number BadStamp = 10
refusal_number BadMark = 11
refusal_number BadVersion = 12
refusal_number CutShort = 13
refusal_number BadLetter = 14
refusal_number TooManyRows = 15

-- No two refusals have the same number.
abbrev pub NumbersDiffer : Type 0
NumbersDiffer = (one other : Refusal) → refusal_number one ≡ refusal_number other → one ≡ other

-- The layer that refuses a call: the memory if it does not have the line, and else the machine.
abbrev pub call_layer : Refusal → Layer
call_layer NoSuchWarp = Machine
call_layer WarpIdle = Machine
call_layer WarpNotIdle = Machine
call_layer OutcomePending = Machine
call_layer NothingToFetch = Machine
call_layer NoSuchLine = Memory
call_layer LogFull = Machine
call_layer ClockSpent = Machine
call_layer BadSize = Machine
call_layer BadStamp = Machine
call_layer BadMark = Machine
call_layer BadVersion = Machine
call_layer CutShort = Machine
call_layer BadLetter = Machine
call_layer TooManyRows = Machine

-- The refusal of a call: why, and the offending warp, line, stamp or count.
abbrev pub fault_in_call : Refusal → ℕ → Fault
fault_in_call why number = record { refusal = why; layer = call_layer why; number = number }

-- The rejection of a calls file, at a byte counted from 0. Its layer is always the file.
abbrev pub fault_in_file : Refusal → ℕ → Fault
fault_in_file why place = record { refusal = why; layer = File; number = place }

-- The same refusal with another offending number.
abbrev pub fault_with_number : Fault → ℕ → Fault
fault_with_number fault number =
    record { refusal = fault.refusal; layer = fault.layer; number = number }
