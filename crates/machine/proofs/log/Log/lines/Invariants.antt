-- The lines so far are listed, each once.
use Rattle.std.proofs.Common.{◌≡◌, ◌≤◌, ◌<◌, map, length, take}
use Rattle.std.specs.List.{All}
use Rattle.protocol.specs.Limits.{line_limit}
use Rattle.rules.specs.Logs.{logged_lines}
use Rattle.machine.specs.Logs.{store_entry}
use Rattle.machine.proofs.log.Log.lines.Given as goal

abbrev pub invariant-loop-store : goal.invariant-loop-store
invariant-loop-store l = record {
  listed : l.lines.items ≡ logged_lines (map store_entry (take l.store-index l.store-items));
  inside : All (λ line. line < line_limit) l.lines.items;
  few : length l.lines.items ≤ l.store-index;
}
