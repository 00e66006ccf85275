-- The memory has the line whose row is added.
use Rattle.std.proofs.Common.{string_bytes}
use Rattle.explain.proofs.Ends.{adds_line_row}
use Rattle.explain.proofs.end.add_line.Goals as goal

pub returns-in-Ok : goal.returns-in-Ok
returns-in-Ok g c =
    adds_line_row c.add_value.result c.args.line c.in-Ok.value
    (g.M.Memory.at c.args.machine.now.memory c.args.line) _
    (string_bytes c.args.text) c.in-Ok.ensures c.add_value.ensures
