-- Refusals of the making call, in their order.
use Rattle.std.specs.Prelude.{ℕ, ◌&&◌, List, Result, ◌==◌, nat_le, nat_lt}
use Rattle.std.specs.Option.{option_or}
use Rattle.protocol.specs.Limits.{warp_limit}
use Rattle.protocol.specs.declared.fault.Fault.{Fault}
use Rattle.protocol.specs.declared.fault.Refusal.TheVariants.{BadSize, BadStamp}
use Rattle.rules.specs.Making.{first_late_stamp, late_stamp_fault}
use Rattle.rules.specs.Refusals.{fault_unless}
use Rattle.machine.specs.CallParts.{as_result}

abbrev pub count_result : ℕ → Result (Unit {0}) Fault
count_result count =
    as_result (fault_unless (nat_lt 0 count && nat_le count warp_limit) BadSize count)

abbrev pub stamp_result : List ℕ → ℕ → Result (Unit {0}) Fault
stamp_result stamps latest =
    as_result (option_or (late_stamp_fault (first_late_stamp stamps))
    (fault_unless (latest == 0) BadStamp latest))
