use Rattle.std.proofs.Common.{string_bytes}
use Rattle.explain.specs.Notes.{AddsNote}
use Rattle.explain.proofs.note.add_note.Given as goal

abbrev pub invariant-loop-line : goal.invariant-loop-line
invariant-loop-line g l = AddsNote (string_bytes l.fn.text) (string_bytes l.all)
