-- The listing of a calls file, from the file's bytes.
use Rattle.std.specs.Prelude.{◌≡◌, ℕ, zero, suc, ◌+◌, List, [], ◌∷◌, ◌++◌, length, take, Some, None}
use Rattle.std.specs.Prelude.{vec_items, Option, Result, slice_index}
use Rattle.protocol.specs.declared.answer.Answer.{Answer}
use Rattle.protocol.specs.declared.call.Call.{Call}
use Rattle.protocol.specs.declared.fault.Fault.{Fault}
use Rattle.memory.specs.Lines.{Lines, word_lines}
use Rattle.book.specs.Exact.{exact, exact_new}
use Rattle.book.specs.Meaning.{Kind}
use Rattle.condensed.specs.Condensed.{condensed, condensed_new}
use Rattle.rules.specs.Runs.{Run}
use Rattle.machine.specs.Running.{run_of, answers_in}
use Rattle.calls.specs.Format.{header_fault, book_named, first_stamps, first_values, file_rows}
use Rattle.calls.specs.declared.file.BookKind.{BookKind}
use Rattle.calls.specs.declared.file.BookKind.TheVariants.{Exact, Condensed}
use Rattle.calls.specs.declared.file.CallsFile.{CallsFile}
use Rattle.listing.specs.Rows.{mem_row, bad_row, call_row}

-- The rows of some calls with their answers or refusals, numbered from a place on.
abbrev pub call_rows : ℕ → List Call → List (Result Answer Fault) → List ℕ
call_rows place [] answers = []
call_rows place (call ∷ calls) [] = []
call_rows place (call ∷ calls) (answer ∷ answers) =
    call_row place call answer ++ call_rows (place + 1) calls answers

-- The row of a line; a line that the memory lacks has none.
abbrev pub line_row : ℕ → Option ℕ → List ℕ
line_row line None = []
line_row line (Some value) = mem_row line value

-- The rows of the lines below a limit, in order.
abbrev pub mem_rows : Lines → ℕ → List ℕ
mem_rows lines zero = []
mem_rows lines (suc line) = mem_rows lines line ++ line_row line (lines line)

-- The end of a listing: what is wrong with the file, or else the values of the lines.
abbrev pub end_rows : Option Fault → Lines → ℕ → List ℕ
end_rows None lines limit = mem_rows lines limit
end_rows (Some fault) lines limit = bad_row fault

-- The listing of a run: its calls with their answers or refusals, numbered from 1, and the end.
abbrev pub run_text : {k : Kind} → Run k → List Call → Option Fault → ℕ → List ℕ
run_text r calls found limit =
    call_rows 1 calls (answers_in r.events) ++ end_rows found r.machine.lines limit

-- The listing of a new machine whose memory has some words, over the book that the file asks for.
unfoldable pub book_text : BookKind → List ℕ → List ℕ → List Call → Option Fault → List ℕ
book_text Exact first_stamps first_values calls found =
    run_text (run_of exact (word_lines first_values) exact_new first_stamps calls) calls found
    (length first_values)
book_text Condensed first_stamps first_values calls found =
    run_text (run_of condensed (word_lines first_values) condensed_new first_stamps calls) calls
    found
    (length first_values)

-- The listing of a file whose header is sound, from the content that was read.
abbrev pub calls_file_text : CallsFile → List ℕ
calls_file_text file =
    book_text file.book (vec_items file.stamps) (vec_items file.values)
    (vec_items file.calls) file.fault

-- The listing of a file whose header is sound, from its bytes. A sound header names a book.
abbrev pub sound_text : Option BookKind → List ℕ → List ℕ
sound_text None bytes = []
sound_text (Some kind) bytes =
    book_text kind (first_stamps bytes) (first_values bytes) (file_rows bytes).calls
    (file_rows bytes).fault

-- The listing of a file. A damaged header gives one row, and nothing else is listed.
abbrev pub file_text : Option Fault → List ℕ → List ℕ
file_text None bytes = sound_text (book_named (slice_index bytes 5)) bytes
file_text (Some fault) bytes = bad_row fault

abbrev pub listing_text : List ℕ → List ℕ
listing_text bytes = file_text (header_fault bytes) bytes

-- The first n bytes of any file are listed as the whole file is.
abbrev pub FrontIsEnough : ℕ → Type 0
FrontIsEnough n = (bytes : List ℕ) → listing_text (take n bytes) ≡ listing_text bytes
