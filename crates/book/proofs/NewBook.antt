-- A new book is sound and has no stamp and no reservation, and two of its lines can be reserved at
-- once.
use Rattle.book.specs.Lemmas.ExactKeeps.{exact_new_is_sound, exact_new_is_new}
use Rattle.book.proofs.OneSlot.{one_slot_is_too_few}

pub ruleset new_book = (exact_new_is_sound, exact_new_is_new, one_slot_is_too_few)
