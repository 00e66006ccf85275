-- What stores mean.
use Rattle.std.specs.Prelude.{ℕ, List, map, take}
use Rattle.rules.specs.Logs.{LogEntry, log_entry}
use Rattle.machine.specs.declared.log.Store.{Store}

-- A store as an entry of a log.
abbrev pub store_entry : Store → LogEntry
store_entry s = log_entry s.line s.value

-- The first `len` of some stores, as entries.
abbrev pub first_entries : ℕ → List Store → List LogEntry
first_entries len stores = map store_entry (take len stores)
