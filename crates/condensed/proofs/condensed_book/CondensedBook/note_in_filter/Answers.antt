-- The book is sound after the filter and the latest stamp are raised.
use Rattle.std.proofs.Common.{◌≡◌, None, sym, subst}
use Rattle.condensed.specs.Condensed.{Condensed, IsSound, after_note, condensed_of}
use Rattle.condensed.specs.CondensedState.{condensed_state}
use Rattle.condensed.specs.Lemmas.CondensedKeeps.{sound_after_note}
use Rattle.condensed.proofs.condensed_book.CondensedBook.note_in_filter.Goals as goal

pub invariant_of-self : goal.invariant_of-self
invariant_of-self c =
    let b = c.args.self.now in
    let s : Condensed = condensed_state b in
    let is : condensed_of b.slots c.raise.new.self c.max-self.result ≡ after_note s c.args.line
    c.args.time None =
    cc in
    record { sound = subst IsSound (sym is) (sound_after_note s b.sound c.args.line c.args.time) }
