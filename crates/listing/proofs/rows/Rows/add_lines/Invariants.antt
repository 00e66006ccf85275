use Rattle.std.proofs.Common.{◌≡◌, ◌++◌}
use Rattle.listing.specs.Listing.{mem_rows}
use Rattle.listing.proofs.rows.Rows.add_lines.Given as goal

abbrev pub invariant-loop-line : goal.invariant-loop-line
invariant-loop-line g l =
    l.self.bytes.items ≡ l.fn.self.bytes.items ++ mem_rows (g.M.Memory.at l.machine.memory) l.line
