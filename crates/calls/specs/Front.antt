-- How many bytes of a file decide what is read of it.
use Rattle.std.specs.Prelude.{◌≡◌, ℕ, ◌+◌, ◌*◌, List, take, None, slice_index, slice_index_or}
use Rattle.protocol.specs.Limits.{line_limit, warp_limit}
use Rattle.calls.specs.Format.{row_limit, header_fault, first_stamps, first_values, file_rows}

-- The length of a file with the maximum number of warps, lines and rows.
abbrev pub longest_file : ℕ
longest_file = 9 + 4 * warp_limit + 4 * line_limit + 8 * row_limit

-- Two files are read alike: both headers are damaged in the same way, or both files have the same
-- content.
pub record ReadAlike (a b : List ℕ) : Type 0 where
  pub same_fault : header_fault a ≡ header_fault b
  pub same_book : slice_index_or a 5 0 ≡ slice_index b 5
  pub same_stamps : header_fault b ≡ None → first_stamps a ≡ first_stamps b
  pub same_values : header_fault b ≡ None → first_values a ≡ first_values b
  pub same_rows : header_fault b ≡ None → file_rows a ≡ file_rows b

-- The first n bytes of any file are read as the whole file is.
abbrev pub Suffices : ℕ → Type 0
Suffices n = (bytes : List ℕ) → ReadAlike (take n bytes) bytes
