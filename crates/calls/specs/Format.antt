-- The calls file, byte by byte. Places count bytes from 0. A byte past the end of the file reads as
-- 0.
use Rattle.std.specs.Prelude.{◌≡◌, ℕ, zero, suc, ◌+◌, ◌*◌, Bool, cond, ◌&&◌, List, [], ◌∷◌, length}
use Rattle.std.specs.Prelude.{is_some, Some, None, Ok, Err, Option, Result, ◌==◌, nat_le, nat_lt}
use Rattle.std.specs.Prelude.{slice_index}
use Rattle.std.specs.Option.{option_map, ok_or}
use Rattle.protocol.specs.Calls.{op_named}
use Rattle.protocol.specs.Faults.{fault_in_file}
use Rattle.protocol.specs.Limits.{line_limit, warp_limit, last_stamp}
use Rattle.protocol.specs.declared.call.Call.{Call}
use Rattle.protocol.specs.declared.fault.Fault.{Fault}
use Rattle.protocol.specs.declared.fault.Refusal.{Refusal}
use Rattle.protocol.specs.declared.fault.Refusal.TheVariants.{BadSize, BadStamp, BadMark}
use Rattle.protocol.specs.declared.fault.Refusal.TheVariants.{BadVersion}
use Rattle.protocol.specs.declared.fault.Refusal.TheVariants.{CutShort, BadLetter, TooManyRows}
use Rattle.calls.specs.declared.file.BookKind.{BookKind}
use Rattle.calls.specs.declared.file.BookKind.TheVariants.{Exact, Condensed}

-- The number of 16 or of 32 bits at a place, most significant byte first.
abbrev pub two_bytes : List ℕ → ℕ → ℕ
two_bytes bytes place = slice_index bytes place * 256 + slice_index bytes (place + 1)

abbrev pub four_bytes : List ℕ → ℕ → ℕ
four_bytes bytes place =
    slice_index bytes place * 16777216 + slice_index bytes (place + 1) * 65536 + slice_index bytes
    (place + 2) * 256
    + slice_index bytes (place + 3)

-- A count of 32-bit numbers from a place on.
abbrev pub numbers : List ℕ → ℕ → ℕ → List ℕ
numbers bytes place zero = []
numbers bytes place (suc more) = four_bytes bytes place ∷ numbers bytes (place + 4) more

-- The letter by which a calls file asks for a book: E for the exact one, C for the condensed one.
abbrev pub book_letter : BookKind → ℕ
book_letter Exact = 69
book_letter Condensed = 67

-- The book that a letter names, if any.
abbrev pub book_named : ℕ → Option BookKind
book_named letter =
    cond (letter == book_letter Exact) (Some Exact)
    (cond (letter == book_letter Condensed) (Some Condensed) None)

-- A book's letter names that book.
abbrev pub LettersNameBooks : Type 0
LettersNameBooks = (kind : BookKind) → book_named (book_letter kind) ≡ Some kind

-- The book that a letter names has that letter.
abbrev pub BooksKeepLetters : Type 0
BooksKeepLetters = (letter : ℕ) (kind : BookKind) → book_named letter ≡ Some kind
    → book_letter kind ≡ letter

-- The header: the letters G, T and M, a 16-bit version, a book's letter, a byte of warps, 16 bits
-- of lines, a first stamp for each warp and a value for each line. Rows follow to the end of the
-- file.
module _ (bytes : List ℕ) where
  abbrev pub warp_count : ℕ
  warp_count = slice_index bytes 6

  abbrev pub line_count : ℕ
  line_count = two_bytes bytes 7

  abbrev pub first_stamps : List ℕ
  first_stamps = numbers bytes 9 warp_count

  abbrev pub first_values : List ℕ
  first_values = numbers bytes (9 + 4 * warp_count) line_count

  abbrev pub rows_place : ℕ
  rows_place = 9 + 4 * warp_count + 4 * line_count

  abbrev pub has_marks : Bool
  has_marks = slice_index bytes 0 == 71 && (slice_index bytes 1 == 84 && slice_index bytes 2 == 77)

  abbrev pub has_sizes : Bool
  has_sizes = nat_le 9 (length bytes)
      && ((nat_lt 0 warp_count && nat_le warp_count warp_limit)
      && (nat_lt 0 line_count && nat_le line_count line_limit))

-- The place of the first stamp that is past the end of the clock, where the stamps begin at a
-- place.
abbrev pub late_stamp_place : ℕ → List ℕ → Option ℕ
late_stamp_place place [] = None
late_stamp_place place (stamp ∷ rest) =
    cond (nat_le stamp last_stamp) (late_stamp_place (place + 4) rest) (Some place)

-- The fault that a check finds: none where it passes.
abbrev pub file_fault_unless : Bool → Refusal → ℕ → Option Fault
file_fault_unless passes why place = cond passes None (Some (fault_in_file why place))

-- The first fault that several checks find.
abbrev pub first_fault : List (Option Fault) → Option Fault
first_fault [] = None
first_fault (None ∷ rest) = first_fault rest
first_fault (Some fault ∷ rest) = Some fault

-- What is wrong with a header: the fault of the first check that fails.
abbrev pub header_fault : List ℕ → Option Fault
header_fault bytes =
    first_fault
    (file_fault_unless (has_marks bytes) BadMark 0
    ∷ file_fault_unless (two_bytes bytes 3 == 1) BadVersion 3
    ∷ file_fault_unless (is_some (book_named (slice_index bytes 5))) BadLetter 5
    ∷ file_fault_unless (has_sizes bytes) BadSize 6
    ∷ file_fault_unless (nat_le (rows_place bytes) (length bytes)) CutShort (length bytes)
    ∷ option_map (fault_in_file BadStamp) (late_stamp_place 9 (first_stamps bytes))
    ∷ [])

-- The call in a row: its letter, a byte of warp, 16 bits of line and 32 bits of value. Fields that
-- the call does not need may hold anything.
abbrev pub row_call : List ℕ → ℕ → Option Call
row_call bytes place =
    option_map
    (λ op. record { warp = slice_index bytes (place + 1); op = op })
    (op_named (slice_index bytes place) (two_bytes bytes (place + 2))
    (four_bytes bytes (place + 4)))

-- The call in the bytes of a whole row. A fault names the place where the row begins.
abbrev pub row_result : List ℕ → ℕ → Result Call Fault
row_result row place = ok_or (row_call row 0) (fault_in_file BadLetter place)

-- The call of the row at a place: none at the end of the file.
abbrev pub row_at : List ℕ → ℕ → Result (Option Call) Fault
row_at bytes place =
    cond (nat_le (length bytes) place) (Ok None)
    (cond (nat_lt (length bytes) (place + 8)) (Err (fault_in_file CutShort place))
    (ok_or (option_map Some (row_call bytes place)) (fault_in_file BadLetter place)))

-- The calls of some rows, and what is wrong after them, if anything.
pub record Rows : Type 0 where
  pub calls : List Call
  pub fault : Option Fault

abbrev pub empty_rows : Option Fault → Rows
empty_rows found = record { calls = []; fault = found }

-- A row and the rows after it. None come after the end of the file or a fault.
abbrev pub row_before : Result (Option Call) Fault → Rows → Rows
row_before (Ok None) rest = empty_rows None
row_before (Ok (Some call)) rest = record { calls = call ∷ rest.calls; fault = rest.fault }
row_before (Err found) rest = empty_rows (Some found)

-- The rows from a place to the end of the file, 8 bytes each, with a limit to their number.
unfoldable pub rows_from : List ℕ → ℕ → ℕ → Rows
rows_from bytes zero place =
    empty_rows (file_fault_unless (nat_le (length bytes) place) TooManyRows place)
rows_from bytes (suc more) place =
    row_before (row_at bytes place) (rows_from bytes more (place + 8))

-- The maximum number of rows.
abbrev pub row_limit : ℕ
row_limit = 4096

-- The rows of a file whose header is sound.
abbrev pub file_rows : List ℕ → Rows
file_rows bytes = rows_from bytes row_limit (rows_place bytes)
