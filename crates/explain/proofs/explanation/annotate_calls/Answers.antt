-- Each turn adds the row of one call; the end follows the last.
use Rattle.std.proofs.Common.{◌<◌, ◌≤◌, length, string_bytes, arith}
use Rattle.machine.specs.Meaning.{state}
use Rattle.explain.proofs.RunRows.{lacks_next_rows, rows_complete}
use Rattle.explain.proofs.explanation.annotate_calls.Goals as goal

pub loop-i-preserved : goal.loop-i-preserved
loop-i-preserved g c =
    let more : c.loop-i.i < length c.args.script.now.calls.now = omega arith in
    lacks_next_rows (state g.M.Memory.at g.B.Book.kind g.B.Book.model c.loop-i.machine)
    (state g.M.Memory.at g.B.Book.kind g.B.Book.model c.add_row.new.machine)
    c.args.script.now.calls.now c.loop-i.i _
    c.args.script.now.fault c.args.script.now.lines (string_bytes c.loop-i.text)
    (string_bytes c.in_ok-text.text) _
    c.loop-i.invariant more c.in_ok-text.ensures.after c.in_ok-text.ensures.text

pub returns : goal.returns
returns g c =
    let over : length c.args.script.now.calls.now ≤ c.loop-i.i = omega arith in
    rows_complete c.add_end.result (state g.M.Memory.at g.B.Book.kind g.B.Book.model c.args.machine)
    (state g.M.Memory.at g.B.Book.kind g.B.Book.model c.loop-i.machine) c.args.script.now.calls.now
    c.loop-i.i
    c.args.script.now.fault c.args.script.now.lines
    (string_bytes c.loop-i.text) over c.loop-i.invariant c.add_end.ensures
