-- Texts without their notes, by example.
use Rattle.std.specs.Prelude.{◌≡◌, [], codes}
use Rattle.explain.specs.Notes.{without_notes}

pub record ByExample : Type 0 where
  -- A text of rows stays as it is: also empty lines, blanks within a row, and a last row without a
  -- line feed.
  pub nothing : without_notes [] ≡ []
  pub rows : without_notes (codes "1 B 0 ok\nmem 0 7\n") ≡ codes "1 B 0 ok\nmem 0 7\n"
  pub empty_lines : without_notes (codes "\n\n1 B 0 ok\n\n") ≡ codes "\n\n1 B 0 ok\n\n"
  pub other_whitespace :
      without_notes (codes "\tmem 0 7\n\rmem 1 8 \n") ≡ codes "\tmem 0 7\n\rmem 1 8 \n"
  pub open_row : without_notes (codes "1 B 0 ok") ≡ codes "1 B 0 ok"
  -- A line that begins with a blank is left out with its line feed, also one of blanks alone.
  pub note : without_notes (codes "    it is done\n") ≡ []
  pub one_blank : without_notes (codes " it is done\n") ≡ []
  pub blanks_alone :
      without_notes (codes "1 B 0 ok\n \n  \nmem 0 7\n") ≡ codes "1 B 0 ok\nmem 0 7\n"
  pub open_note : without_notes (codes "1 B 0 ok\n    it is") ≡ codes "1 B 0 ok\n"
  -- Rows among notes.
  pub row_and_notes :
      without_notes (codes "1 B 0 ok\n    it is done\n    after\nmem 0 7\n    it holds 7\n")
      ≡ codes "1 B 0 ok\nmem 0 7\n"
  pub note_first : without_notes (codes "    it is done\n1 B 0 ok\n") ≡ codes "1 B 0 ok\n"
