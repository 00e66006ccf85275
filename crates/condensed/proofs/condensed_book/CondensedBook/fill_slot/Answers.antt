-- The book is sound after an entry that fits is written into the slot for its line.
use Rattle.std.proofs.Common.{sym, ap, subst, arith}
use Rattle.condensed.specs.Condensed.{Condensed, IsSound, slots_with, condensed_of}
use Rattle.condensed.specs.CondensedState.{condensed_state}
use Rattle.condensed.specs.Lemmas.CondensedKeeps.{sound_with_slot}
use Rattle.condensed.proofs.condensed_book.CondensedBook.fill_slot.Goals as goal

pub invariant_of-self : goal.invariant_of-self
invariant_of-self c =
    let b = c.args.self.now in
    let s : Condensed = condensed_state b in
    let written = slots_with s c.args.line c.args.slot.index c.args.entry in
    let is = ap (λ latest. condensed_of written b.filter latest) c.max-self.ensures in
    record {
      sound = subst IsSound (sym is)
          (sound_with_slot s b.sound c.args.line c.requires.in_range c.args.entry c.args.slot.index
          _
          c.requires.its_slot (omega arith) c.requires.fits);
    }
