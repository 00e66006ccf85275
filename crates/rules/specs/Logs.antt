-- Logs: the stores of a transaction that are not yet committed.
use Rattle.std.specs.Prelude.{ℕ, cond, List, map, Some, None, fold, Option, ◌==◌}
use Rattle.rules.specs.Lists.{distinct_numbers}

-- One store: its line and its value.
pub record LogEntry : Type 0 where
  pub line : ℕ
  pub value : ℕ

-- The entry of a store to a line.
abbrev pub log_entry : ℕ → ℕ → LogEntry
log_entry line value = record { line = line; value = value }

-- The last value stored to a line, if any. The log is in the order of the stores.
abbrev pub last_stored : List LogEntry → ℕ → Option ℕ
last_stored log line =
    fold (λ found (s : LogEntry). cond (s.line == line) (Some s.value) found) None log

-- The line of each store.
abbrev pub entry_lines : List LogEntry → List ℕ
entry_lines log = map (λ (s : LogEntry). s.line) log

-- The lines that a log stores to, each once, in the order of their first store.
abbrev pub logged_lines : List LogEntry → List ℕ
logged_lines log = distinct_numbers (entry_lines log)
