-- The answer of a book to a call.
use Rattle.std.specs.Prelude.{Bool, true, false, Ok, Err, Result}
use Rattle.book.specs.declared.refused.Refused.{Refused}

-- A granted call returns `Ok`, any other call is refused.
abbrev pub grant_result : Bool → Result (Unit {0}) Refused
grant_result true = Ok tt
grant_result false = Err (record {})
