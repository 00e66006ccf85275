-- A text of rows and notes. A note is a line that begins with a blank; a row is any other line.
use Rattle.std.specs.Prelude.{◌≡◌, ℕ, Bool, false, cond, not, List, [], ◌∷◌, ◌++◌, codes, filter}
use Rattle.std.specs.Prelude.{All, ◌==◌}
use Rattle.std.specs.List.{flat_map}
use Rattle.std.specs.Str.Iter.{LacksByte}

-- Where a byte stands: at the start of a line, further on in a row, or further on in a note.
pub data LinePart : Type 0 where
  at_start : LinePart
  in_row : LinePart
  in_note : LinePart

-- Whether a byte belongs to a row or to a note: the first byte of the line decides.
abbrev pub place_in_line : LinePart → ℕ → LinePart
place_in_line at_start byte = cond (byte == 32) in_note in_row
place_in_line in_row byte = in_row
place_in_line in_note byte = in_note

-- Where the next byte stands: a line feed ends the line.
abbrev pub place_after : LinePart → ℕ → LinePart
place_after line byte = cond (byte == 10) at_start line

-- A byte of a row is kept; a byte of a note is not.
abbrev pub kept_byte : LinePart → ℕ → List ℕ
kept_byte at_start byte = byte ∷ []
kept_byte in_row byte = byte ∷ []
kept_byte in_note byte = []

-- The bytes that are kept, where the first of them stands at a place.
unfoldable pub kept_from : LinePart → List ℕ → List ℕ
kept_from place [] = []
kept_from place (byte ∷ rest) =
    kept_byte (place_in_line place byte) byte
    ++ kept_from (place_after (place_in_line place byte) byte) rest

-- A text without its notes.
abbrev pub without_notes : List ℕ → List ℕ
without_notes text = kept_from at_start text

-- The text of some lines, each with its line feed.
abbrev pub with_feeds : List (List ℕ) → List ℕ
with_feeds lines = flat_map (λ (line : List ℕ). line ++ codes "\n") lines

-- Whether a line is a note.
abbrev pub is_note : List ℕ → Bool
is_note [] = false
is_note (byte ∷ rest) = byte == 32

-- The lines that are no notes.
abbrev pub lines_without_notes : List (List ℕ) → List (List ℕ)
lines_without_notes lines = filter (λ line. not (is_note line)) lines

-- Every text is some lines, each with its line feed, and a last line without one. Without its notes
-- it is the text of its rows, unchanged and in their order; the last line is left out too if it is
-- a note.
abbrev pub DropsNotes : Type 0
DropsNotes =
    (lines : List (List ℕ)) (last : List ℕ) → All (LacksByte 10) lines → LacksByte 10 last
    → without_notes (with_feeds lines ++ last) ≡ with_feeds (lines_without_notes lines)
    ++ cond (is_note last) [] last

-- A line of a note: indented by four blanks, with its line feed. And the text of some such lines.
abbrev pub indented_line : List ℕ → List ℕ
indented_line line = codes "    " ++ (line ++ codes "\n")

abbrev pub indented : List (List ℕ) → List ℕ
indented lines = flat_map indented_line lines

-- The bytes are indented lines.
pub record IsNote (bytes : List ℕ) : Type 0 where
  pub lines : List (List ℕ)
  pub each : All (LacksByte 10) lines
  pub same : bytes ≡ indented lines

-- The new text is the old one with a note after it.
pub record AddsNote (old new : List ℕ) : Type 0 where
  pub note : List ℕ
  pub is_note : IsNote note
  pub grown : new ≡ old ++ note

-- The new text is the old one with a row and its note after it.
pub record AddsRow (row old new : List ℕ) : Type 0 where
  pub note : List ℕ
  pub is_note : IsNote note
  pub grown : new ≡ old ++ (row ++ note)

-- The new text is the old one with lines after it that are these rows without their notes, whatever
-- follows.
pub record AddsRows (rows old new : List ℕ) : Type 0 where
  pub lines : List ℕ
  pub grown : new ≡ old ++ lines
  pub rows_alone : (rest : List ℕ) → without_notes (lines ++ rest) ≡ rows ++ without_notes rest
