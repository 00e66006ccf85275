-- The exact book is the earliest, whatever this call is.
use Rattle.book.proofs.Earliest.{exact_is_earliest}
use Rattle.book.proofs.call.make_both.Goals as goal

pub returns-clause-earliest : goal.returns-clause-earliest
returns-clause-earliest g c = exact_is_earliest g.B.Book.kind g.met.B.Book.keeps

pub returns-in_err-make-clause-earliest : goal.returns-in_err-make-clause-earliest
returns-in_err-make-clause-earliest g c = exact_is_earliest g.B.Book.kind g.met.B.Book.keeps
