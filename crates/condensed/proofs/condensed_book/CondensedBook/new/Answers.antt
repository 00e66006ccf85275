-- A new book is sound, and has no stamp and no reservation.
use Rattle.std.proofs.Common.{◌≡◌, replicate, sym, ap, subst}
use Rattle.book.specs.Meaning.{IsNew}
use Rattle.book.proofs.Earliest.{exact_is_earliest}
use Rattle.condensed.specs.Condensed.{IsSound, condensed, condensed_new, empty_slot, condensed_of}
use Rattle.condensed.specs.Lemmas.CondensedKeeps.{condensed_keeps, sound_new}
use Rattle.condensed.proofs.NewBook.{new_condensed}
use Rattle.condensed.proofs.SharedMark.{shared_mark}
use Rattle.condensed.proofs.FullBook.{no_slot_for_a_seventeenth}
use Rattle.condensed.proofs.condensed_book.CondensedBook.new.Goals as goal

pub invariant_of-result : goal.invariant_of-result
invariant_of-result c =
    record {
      sound = subst IsSound
          (sym (ap (λ f. condensed_of (replicate 16 empty_slot) f 0) c.new.ensures)) sound_new;
    }

pub returns : goal.returns
returns c =
    let is : condensed_of (replicate 16 empty_slot) c.new.result 0 ≡ condensed_new =
    ap (λ f. condensed_of (replicate 16 empty_slot) f 0) c.new.ensures in
    record {
      value = is;
      new = subst (IsNew condensed) (sym is) new_condensed;
      never_earlier = exact_is_earliest condensed condensed_keeps;
      full = no_slot_for_a_seventeenth;
      example = shared_mark;
    }
