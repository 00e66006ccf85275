-- What is known of a header as far as it has been read.
use Rattle.std.specs.Prelude.{◌≡◌, ℕ, ◌+◌, true, List, length, Some, nat_eq, slice_index}
use Rattle.calls.specs.Format.{header_fault, has_marks, two_bytes, book_named, has_sizes}
use Rattle.calls.specs.Format.{warp_count}
use Rattle.calls.specs.Format.{line_count}
use Rattle.protocol.specs.declared.fault.Fault.{Fault}
use Rattle.calls.specs.declared.header.Shape.{Shape}

-- The header is damaged, and this is its fault.
abbrev pub IsDamagedBy : List ℕ → Fault → Type 0
IsDamagedBy bytes fault = header_fault bytes ≡ Some fault

-- The marks and the version are right, and these are the bytes after them.
pub record HasVersion (bytes rest : List ℕ) : Type 0 where
  pub marks : has_marks bytes ≡ true
  pub version : nat_eq (two_bytes bytes 3) 1 ≡ true
  pub size : length bytes ≡ 5 + length rest
  pub follows : (k : ℕ) → slice_index rest k ≡ slice_index bytes (5 + k)

-- The header is right up to the first stamps, and has this shape.
pub record HasShape (bytes : List ℕ) (shape : Shape) : Type 0 where
  pub marks : has_marks bytes ≡ true
  pub version : nat_eq (two_bytes bytes 3) 1 ≡ true
  pub book : book_named (slice_index bytes 5) ≡ Some shape.book
  pub size : has_sizes bytes ≡ true
  pub warps : shape.warps ≡ warp_count bytes
  pub lines : shape.lines ≡ line_count bytes
