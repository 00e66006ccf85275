use Rattle.std.proofs.Common.{◌+◌, drop, string_bytes}
use Rattle.machine.specs.Meaning.{state}
use Rattle.explain.proofs.RunRows.{LacksRows, rows_from}
use Rattle.explain.proofs.explanation.annotate_calls.Given as goal

-- The text awaits the rows of the calls that are left.
abbrev pub invariant-loop-i : goal.invariant-loop-i
invariant-loop-i g l =
    LacksRows (string_bytes l.text)
    (rows_from (l.i + 1) (state g.M.Memory.at g.B.Book.kind g.B.Book.model l.machine)
    (drop l.i l.script.calls.now) l.script.fault l.script.lines)
    (rows_from 1 (state g.M.Memory.at g.B.Book.kind g.B.Book.model l.fn.machine) l.script.calls.now
    l.script.fault l.script.lines)
