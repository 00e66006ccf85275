-- The line that a call of a book is about, and the text of the call.
use Rattle.std.specs.Prelude.{ℕ, List, ◌++◌, codes}
use Rattle.std.specs.Fmt.{decimal}
use Rattle.book.specs.Time.{Time}
use Rattle.book.specs.declared.call.BookCall.{BookCall}
use Rattle.book.specs.declared.call.BookCall.TheVariants.{Note, Reserve, Add, Release}

abbrev pub call_line : BookCall → ℕ
call_line (Note line t) = line
call_line (Reserve line t) = line
call_line (Add line) = line
call_line (Release line) = line

abbrev pub time_text : Time → List ℕ
time_text t = codes "(" ++ (decimal t.0 ++ (codes ", " ++ (decimal t.1 ++ codes ")")))

abbrev pub call_text : BookCall → List ℕ
call_text (Note line t) = codes "note " ++ (decimal line ++ (codes " at " ++ time_text t))
call_text (Reserve line t) = codes "reserve " ++ (decimal line ++ (codes " at " ++ time_text t))
call_text (Add line) = codes "add " ++ decimal line
call_text (Release line) = codes "release " ++ decimal line
