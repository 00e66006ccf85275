-- The book is sound after the filter is raised to the stamps of an evicted line.
use Rattle.std.proofs.Common.{◌<◌, length, sym, ap, subst, ◌∙◌, arith}
use Rattle.std.proofs.lemmas.List.{get_or_default}
use Rattle.condensed.specs.Condensed.{Condensed, IsSound, empty_slot, condensed_of}
use Rattle.condensed.specs.Condensed.{filter_after_eviction}
use Rattle.condensed.specs.CondensedState.{condensed_state}
use Rattle.condensed.specs.Lemmas.CondensedKeeps.{sound_after_eviction}
use Rattle.condensed.proofs.condensed_book.CondensedBook.evict.Goals as goal

pub invariant_of-self : goal.invariant_of-self
invariant_of-self c =
    let b = c.args.self.now in
    let s : Condensed = condensed_state b in
    let in_range = c.args.slot.in_range in
    let sixteen = b.sound.sixteen in
    let room : c.args.slot.index < length b.slots = omega arith in
    let slot = get_or_default b.slots c.args.slot.index c.index-self-slot.result empty_slot room in
    let after = c.evict.ensures ∙ ap (λ x. filter_after_eviction b.filter x c.args.line) slot in
    record {
      sound = subst IsSound (sym (ap (λ f. condensed_of b.slots f b.latest) after))
          (sound_after_eviction s b.sound c.args.line c.args.slot.index);
    }
