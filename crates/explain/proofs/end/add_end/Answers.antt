-- What is wrong with the file ends it.
use Rattle.std.proofs.Common.{string_bytes}
use Rattle.explain.proofs.Ends.{adds_end_rows}
use Rattle.explain.proofs.end.add_end.Goals as goal

pub returns-in-Some : goal.returns-in-Some
returns-in-Some g c =
    adds_end_rows c.add_damage.result c.args.found c.in-Some.fault
    (g.M.Memory.at c.args.machine.now.memory) c.args.limit
    (string_bytes c.args.text) c.in-Some.is c.add_damage.ensures
