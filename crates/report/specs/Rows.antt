-- Texts as rows.
use Rattle.std.specs.Prelude.{ℕ, ◌+◌, cond, List, [], ◌∷◌, ◌==◌}

-- A byte that is no line feed, in front of some rows: it belongs to the first of them.
abbrev pub with_byte : ℕ → List (List ℕ) → List (List ℕ)
with_byte byte [] = (byte ∷ []) ∷ []
with_byte byte (row ∷ rows) = (byte ∷ row) ∷ rows

-- The rows of a text. A row ends with its line feed; the last row may lack one.
abbrev pub rows_of : List ℕ → List (List ℕ)
rows_of [] = []
rows_of (byte ∷ rest) =
    cond (byte == 10) ((byte ∷ []) ∷ rows_of rest) (with_byte byte (rows_of rest))

-- The size of the first row of a text.
abbrev pub row_size : List ℕ → ℕ
row_size [] = 0
row_size (byte ∷ rest) = cond (byte == 10) 1 (row_size rest + 1)
