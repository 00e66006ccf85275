-- A hold is determined by its warp and its number of stores, whatever the proof that it has some.
use Rattle.book.specs.Lemmas.Holds.{hold_is_hold_of}
use Rattle.book.proofs.entry.Hold.of.Goals as goal

pub returns-in_default : goal.returns-in_default
returns-in_default c = hold_is_hold_of _
