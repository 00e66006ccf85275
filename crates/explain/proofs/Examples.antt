-- The examples are computed.
use Rattle.std.proofs.Common.{refl}
use Rattle.explain.specs.Examples.{ByExample}
use Rattle.explain.specs.Notes.{kept_from}

pub by_example : ByExample
unfolding kept_from
by_example =
    record {
      nothing = refl;
      rows = refl;
      empty_lines = refl;
      other_whitespace = refl;
      open_row = refl;
      note = refl;
      one_blank = refl;
      blanks_alone = refl;
      open_note = refl;
      row_and_notes = refl;
      note_first = refl;
    }
