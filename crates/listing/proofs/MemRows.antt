-- The rows of the lines, one line more at a time.
use Rattle.std.proofs.Common.{◌≡◌, ℕ, ◌+◌, List, ◌++◌, append_assoc, add-one}
use Rattle.memory.specs.Lines.{Lines}
use Rattle.listing.specs.Listing.{mem_rows, line_row}

pub one_line_more :
    (lines : Lines) (line : ℕ) (before all after : List ℕ)
    → all ≡ before ++ mem_rows lines line → after ≡ all ++ line_row line (lines line)
    → after ≡ before ++ mem_rows lines (line + 1)
one_line_more lines line before all after e f = simp (f, e, append_assoc, add-one)
