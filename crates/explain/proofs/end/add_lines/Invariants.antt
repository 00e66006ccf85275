use Rattle.std.proofs.Common.{string_bytes}
use Rattle.listing.specs.Listing.{mem_rows}
use Rattle.explain.specs.Notes.{AddsRows}
use Rattle.explain.proofs.end.add_lines.Given as goal

abbrev pub invariant-loop-line : goal.invariant-loop-line
invariant-loop-line g l =
    AddsRows (mem_rows (g.M.Memory.at l.machine.memory) l.line) (string_bytes l.fn.text)
    (string_bytes l.all)
