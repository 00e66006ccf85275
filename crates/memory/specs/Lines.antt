-- The lines of a memory, and the effect of reads and writes.
use Rattle.std.specs.Prelude.{ℕ, ◌+◌, ◌-◌, ◌*◌, ◌/◌, ◌%◌, cond, List, length, drop, Some, None, Ok}
use Rattle.std.specs.Prelude.{Err, Option, Result, ◌==◌, nat_lt, slice_index}
use Rattle.std.specs.Option.{option_map}
use Rattle.protocol.specs.Faults.{fault_in_call}
use Rattle.protocol.specs.declared.fault.Fault.{Fault}
use Rattle.protocol.specs.declared.fault.Refusal.TheVariants.{NoSuchLine}

-- The lines that a memory has, each with its value.
abbrev pub Lines : Type 0
Lines = ℕ → Option ℕ

-- A write sets the value of one line. It changes nothing if the memory does not have the line.
abbrev pub lines_with : Lines → ℕ → ℕ → Lines
lines_with lines line value n = cond (n == line) (option_map (λ _. value) (lines n)) (lines n)

-- The refusal of a line that the memory does not have.
abbrev pub no_line : ℕ → Fault
no_line line = fault_in_call NoSuchLine line

-- The answer to a write, from the line's value before it.
abbrev pub write_result : Option ℕ → Fault → Result (Unit {0}) Fault
write_result None fault = Err fault
write_result (Some value) fault = Ok tt

-- The caller's words: line 0 first.
abbrev pub word_lines : List ℕ → Lines
word_lines words n = cond (nat_lt n (length words)) (Some (slice_index words n)) None

-- Four bytes from a position on as one number, least significant first.
abbrev pub little_endian : List ℕ → ℕ → ℕ
little_endian bytes place =
    slice_index bytes place + slice_index bytes (place + 1) * 256 + slice_index bytes
    (place + 2) * 65536
    + slice_index bytes (place + 3) * 16777216

-- The caller's bytes: four to a line. Up to three bytes left over at the end are in no line.
abbrev pub byte_lines : List ℕ → Lines
byte_lines bytes n = cond (nat_lt n (length bytes / 4)) (Some (little_endian bytes (4 * n))) None

-- The caller's bytes at the end that are in no line.
abbrev pub leftover_bytes : List ℕ → List ℕ
leftover_bytes bytes = drop (4 * (length bytes / 4)) bytes

-- Two memories joined: even line n is line n / 2 of the first, odd line n is line (n - 1) / 2 of
-- the second.
abbrev pub split_lines : Lines → Lines → Lines
split_lines first second n = cond (n % 2 == 0) (first (n / 2)) (second ((n - 1) / 2))
