-- The lines so far are listed, each once.
use Rattle.std.proofs.Common.{◌≡◌, ◌≤◌, length, take}
use Rattle.rules.specs.Lists.{distinct_numbers}
use Rattle.machine.specs.Requests.{waiting_lines}
use Rattle.machine.proofs.queue.Queue.count_lines.Given as goal

abbrev pub invariant-loop-request : goal.invariant-loop-request
invariant-loop-request l = record {
  listed : l.lines.items ≡ distinct_numbers (waiting_lines (take l.request-index l.request-items));
  few : length l.lines.items ≤ l.request-index;
}
