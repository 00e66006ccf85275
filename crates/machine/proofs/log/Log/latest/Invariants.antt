-- The value is the last one stored to the line so far.
use Rattle.std.proofs.Common.{◌≡◌, map, take}
use Rattle.rules.specs.Logs.{last_stored}
use Rattle.machine.specs.Logs.{store_entry}
use Rattle.machine.proofs.log.Log.latest.Given as goal

abbrev pub invariant-loop-store : goal.invariant-loop-store
invariant-loop-store l =
    l.found ≡ last_stored (map store_entry (take l.store-index l.store-items)) l.line
