-- Some slot is free exactly if one is chosen.
use Rattle.std.proofs.Common.{sym, ◌∙◌}
use Rattle.condensed.specs.CondensedState.{slot_index}
use Rattle.condensed.proofs.FreeSlots.{free_slot_is_chosen_outside}
use Rattle.condensed.proofs.condensed_book.CondensedBook.finds_slot.Goals as goal

pub returns-else-is_some : goal.returns-else-is_some
returns-else-is_some c =
    c.any_free.ensures
    ∙ free_slot_is_chosen_outside slot_index c.args.inside c.args.self.now.slots
    (sym c.is_some.ensures ∙ c.if-is_some.false)
