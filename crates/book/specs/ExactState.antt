-- The state of an `ExactBook`: its fields.
use Rattle.book.specs.Exact.{Exact, exact_of}
use Rattle.book.specs.declared.exact_book.ExactBook.{ExactBook}

abbrev pub exact_state : ExactBook → Exact
exact_state b = exact_of b.entries b.latest
