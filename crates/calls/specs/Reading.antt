-- The result of reading a calls file.
use Rattle.std.specs.Prelude.{◌≡◌, ℕ, List, Some, None, Ok, Err, vec_items, Result, slice_index}
use Rattle.calls.specs.declared.file.CallsFile.{CallsFile}
use Rattle.calls.specs.declared.file.ReadError.{ReadError}
use Rattle.calls.specs.declared.file.ReadError.TheVariants.{Damaged, NoMemory}
use Rattle.calls.specs.Format.{header_fault, book_named, first_stamps, first_values, file_rows}

-- The file has the content that its bytes say.
pub record HoldsContent (bytes : List ℕ) (file : CallsFile) : Type 0 where
  pub book : book_named (slice_index bytes 5) ≡ Some file.book
  pub stamps : vec_items file.stamps ≡ first_stamps bytes
  pub values : vec_items file.values ≡ first_values bytes
  pub calls : vec_items file.calls ≡ (file_rows bytes).calls
  pub fault : file.fault ≡ (file_rows bytes).fault

-- A sound header is read with its rows. A damaged one is an error, for the first check that fails.
-- If memory runs out, nothing is promised of the bytes.
abbrev pub Reads : List ℕ → Result CallsFile ReadError → Type 0
Reads bytes (Ok file) = (header_fault bytes ≡ None) × HoldsContent bytes file
Reads bytes (Err (Damaged fault)) = header_fault bytes ≡ Some fault
Reads bytes (Err NoMemory) = Unit {0}
