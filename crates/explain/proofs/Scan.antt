-- What is kept of bytes, whatever follows them.
use Rattle.std.proofs.Common.{◌≡◌, ℕ, suc, Bool, true, false, cond, not, List, [], ◌∷◌, ◌++◌, codes}
use Rattle.std.proofs.Common.{append_assoc, append-nil, refl, sym, ap, ◌∙◌, subst, arith, ◌==◌, All}
use Rattle.std.specs.Str.Iter.{LacksByte}
use Rattle.std.proofs.lemmas.Bool.Decides.{nat_tests}
use Rattle.std.proofs.lemmas.List.Elements.{All-head, All-tail}
use Rattle.explain.specs.Notes.{LinePart, at_start, in_row, in_note, place_after, kept_byte}
use Rattle.explain.specs.Notes.{kept_from}
use Rattle.explain.specs.Notes.{without_notes}
use Rattle.explain.specs.Notes.{with_feeds, is_note, lines_without_notes, DropsNotes, indented}
use Rattle.explain.specs.Notes.{indented_line}
use Rattle.explain.specs.Notes.{IsNote, AddsRow, AddsRows}

-- Of bytes that begin at a place some are kept, and what follows them begins at another.
abbrev pub Gives : LinePart → List ℕ → List ℕ → LinePart → Type 0
Gives p bytes kept q = (rest : List ℕ) → kept_from p (bytes ++ rest) ≡ kept ++ kept_from q rest

-- All of them are kept.
abbrev pub Keeps : LinePart → List ℕ → LinePart → Type 0
Keeps p bytes q = Gives p bytes bytes q

pub gives_append :
    (p q r : LinePart) (a b ka kb : List ℕ) → Gives p a ka q → Gives q b kb r
    → Gives p (a ++ b) (ka ++ kb) r
gives_append p q r a b ka kb first second rest =
    ap (λ t. kept_from p t) (append_assoc a b rest)
    ∙ first (b ++ rest)
    ∙ ap (λ t. ka ++ t) (second rest)
    ∙ sym (append_assoc ka kb (kept_from r rest))

-- A byte that is no line feed.
no_feed : (byte : ℕ) (line : List ℕ) → LacksByte 10 (byte ∷ line) → (byte == 10) ≡ false
no_feed byte line lacks = let h : byte ≡ 10 → ⊥ = lacks 0 (omega arith) in grind (arith, nat_tests)

lacks_rest : (byte : ℕ) (line : List ℕ) → LacksByte 10 (byte ∷ line) → LacksByte 10 line
lacks_rest byte line lacks k below = lacks (suc k) (omega arith)

-- The rest of a note is left out, and the rest of a row is kept.
pub note_goes_on : (line : List ℕ) → LacksByte 10 line → Gives in_note line [] in_note
unfolding kept_from
note_goes_on [] lacks rest = refl
note_goes_on (byte ∷ line) lacks rest =
    ap (λ b. kept_from (cond b at_start in_note) (line ++ rest)) (no_feed byte line lacks)
    ∙ note_goes_on line (lacks_rest byte line lacks) rest

pub row_goes_on : (line : List ℕ) → LacksByte 10 line → Keeps in_row line in_row
unfolding kept_from
row_goes_on [] lacks rest = refl
row_goes_on (byte ∷ line) lacks rest =
    ap (λ b. byte ∷ kept_from (cond b at_start in_row) (line ++ rest)) (no_feed byte line lacks)
    ∙ ap (λ t. byte ∷ t) (row_goes_on line (lacks_rest byte line lacks) rest)

-- A line from its first byte on, by whether that is a blank.
from_start :
    (b : Bool) (byte : ℕ) (line : List ℕ) → LacksByte 10 (byte ∷ line) → (rest : List ℕ)
    → kept_byte (cond b in_note in_row) byte
    ++ kept_from (place_after (cond b in_note in_row) byte) (line ++ rest)
    ≡ cond b [] (byte ∷ line) ++ kept_from (cond b in_note in_row) rest
from_start true byte line lacks rest =
    ap (λ b. kept_from (cond b at_start in_note) (line ++ rest)) (no_feed byte line lacks)
    ∙ note_goes_on line (lacks_rest byte line lacks) rest
from_start false byte line lacks rest =
    ap (λ b. byte ∷ kept_from (cond b at_start in_row) (line ++ rest)) (no_feed byte line lacks)
    ∙ ap (λ t. byte ∷ t) (row_goes_on line (lacks_rest byte line lacks) rest)

first_byte :
    (byte : ℕ) (line : List ℕ) → LacksByte 10 (byte ∷ line)
    → Gives at_start (byte ∷ line) (cond (byte == 32) [] (byte ∷ line))
    (cond (byte == 32) in_note in_row)
unfolding kept_from
first_byte byte line lacks rest = from_start (byte == 32) byte line lacks rest

-- A line feed ends a line.
feed :
    (b : Bool) (line : List ℕ) (rest : List ℕ)
    → cond b [] line ++ kept_from (cond b in_note in_row) (codes "\n" ++ rest)
    ≡ cond b [] (line ++ codes "\n") ++ without_notes rest
unfolding kept_from
feed true line rest = refl
feed false line rest = sym (append_assoc line (codes "\n") (without_notes rest))

-- A whole line.
whole_line :
    (line : List ℕ) → LacksByte 10 line
    → Gives at_start (line ++ codes "\n") (cond (is_note line) [] (line ++ codes "\n")) at_start
unfolding kept_from
whole_line [] lacks rest = refl
whole_line (byte ∷ line) lacks rest =
    ap (λ t. without_notes t) (append_assoc (byte ∷ line) (codes "\n") rest)
    ∙ first_byte byte line lacks (codes "\n" ++ rest)
    ∙ feed (byte == 32) (byte ∷ line) rest

-- The rows of some lines, one line more.
one_line_more :
    (b : Bool) (line : List ℕ) (rows : List (List ℕ))
    → with_feeds (cond (not b) (line ∷ rows) rows) ≡ cond b [] (line ++ codes "\n")
    ++ with_feeds rows
one_line_more true line rows = refl
one_line_more false line rows = refl

whole_lines :
    (lines : List (List ℕ)) → All (LacksByte 10) lines
    → Gives at_start (with_feeds lines) (with_feeds (lines_without_notes lines)) at_start
whole_lines [] each rest = refl
whole_lines (line ∷ lines) each rest =
    gives_append at_start at_start at_start (line ++ codes "\n") (with_feeds lines)
    (cond (is_note line) [] (line ++ codes "\n")) (with_feeds (lines_without_notes lines))
    (whole_line line (All-head (LacksByte 10) line lines each))
    (whole_lines lines (All-tail (LacksByte 10) line lines each)) rest
    ∙ ap (λ t. t ++ without_notes rest)
    (sym (one_line_more (is_note line) line (lines_without_notes lines)))

-- The last line may lack its line feed.
last_line : (last : List ℕ) → LacksByte 10 last → without_notes last ≡ cond (is_note last) [] last
unfolding kept_from
last_line [] lacks = refl
last_line (byte ∷ line) lacks =
    ap (λ t. without_notes t) (sym (append-nil (byte ∷ line)))
    ∙ first_byte byte line lacks []
    ∙ append-nil _

pub drops_notes : DropsNotes
drops_notes lines last each lacks =
    whole_lines lines each last ∙ ap (λ t. with_feeds (lines_without_notes lines) ++ t)
    (last_line last lacks)

-- Indented lines are left out.
blanks : Gives at_start (codes "    ") [] in_note
unfolding kept_from
blanks rest = refl

note_ends : Gives in_note (codes "\n") [] at_start
unfolding kept_from
note_ends rest = refl

indented_lines : (lines : List (List ℕ)) → All (LacksByte 10) lines
    → Gives at_start (indented lines) [] at_start
indented_lines [] each rest = refl
indented_lines (line ∷ lines) each rest =
    gives_append at_start at_start at_start (indented_line line) (indented lines) [] []
    (gives_append at_start in_note at_start (codes "    ") (line ++ codes "\n") [] [] blanks
    (gives_append in_note in_note at_start line (codes "\n") [] []
    (note_goes_on line (All-head (LacksByte 10) line lines each)) note_ends))
    (indented_lines lines (All-tail (LacksByte 10) line lines each)) rest

pub note_left_out : (note : List ℕ) → IsNote note → Gives at_start note [] at_start
note_left_out note h =
    subst (λ t. Gives at_start t [] at_start) (sym h.same) (indented_lines h.lines h.each)

-- A row that is kept, and a note under it.
pub row_with_note : (row old new : List ℕ) → Keeps at_start row at_start → AddsRow row old new
    → AddsRows row old new
row_with_note row old new kept h =
    record {
      lines = row ++ h.note;
      grown = h.grown;
      rows_alone = λ rest.
          gives_append at_start at_start at_start row h.note row [] kept
          (note_left_out h.note h.is_note) rest
          ∙ ap (λ t. t ++ without_notes rest) (append-nil row);
    }

-- Rows after others.
pub more_rows :
    (rows others old mid new : List ℕ) → AddsRows rows old mid → AddsRows others mid new
    → AddsRows (rows ++ others) old new
more_rows rows others old mid new h g =
    record {
      lines = h.lines ++ g.lines;
      grown =
          g.grown ∙ ap (λ t. t ++ g.lines) h.grown ∙ append_assoc old h.lines g.lines;
      rows_alone = gives_append at_start at_start at_start h.lines g.lines rows others h.rows_alone
          g.rows_alone;
    }
