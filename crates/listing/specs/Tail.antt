-- The part of a row that is written so far.
use Rattle.std.specs.Prelude.{ℕ, List, drop}
use Rattle.listing.specs.declared.row.Tail.{Tail}

abbrev pub tail : Tail → List ℕ
tail t = drop t.start t.bytes
