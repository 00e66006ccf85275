-- A new condensed book has no stamp and no reservation, and a slot for every line.
use Rattle.std.proofs.Common.{◌≡◌, ℕ, ◌<◌, true, ltb, List, get_or, replicate, is_some, Some, None}
use Rattle.std.proofs.Common.{Option, refl, ap, ◌∙◌}
use Rattle.std.proofs.lemmas.Bool.{and_from, lt-ltb}
use Rattle.protocol.specs.Limits.{line_limit}
use Rattle.book.specs.Meaning.{IsNew}
use Rattle.book.specs.Entries.{untouched_entry, no_stamps, free_entry, earlier_stamps, entry_stores}
use Rattle.book.specs.Entries.{entry_owner}
use Rattle.book.specs.declared.entry.Stamps.{Stamps}
use Rattle.book.specs.Lemmas.ListSet.{slice_index_or-replicate}
use Rattle.condensed.specs.Filter.{indices_of, filter_stamps}
use Rattle.std.specs.Option.{option_or}
use Rattle.condensed.specs.Condensed.{condensed, condensed_new, empty_slot, slot_holds, slot_of}
use Rattle.condensed.specs.Condensed.{line_entry}
use Rattle.condensed.specs.Condensed.{entry_from}
use Rattle.condensed.specs.Lemmas.Slots.{slot_of-none}
use Rattle.condensed.specs.Lemmas.CondensedKeeps.{new_stamps}
use Rattle.condensed.specs.Lemmas.SoundLines.{line_entry-in_range}

new_filter_stamps : (four : List ℕ)
    → filter_stamps (replicate 4 (replicate 64 no_stamps)) four ≡ no_stamps
unfolding filter_stamps
new_filter_stamps four =
    all_four _ _ _ _ (new_stamps 4 0 (get_or four 0 0)) (new_stamps 4 1 (get_or four 1 0))
    (new_stamps 4 2 (get_or four 2 0)) (new_stamps 4 3 (get_or four 3 0))
  where
    all_four :
        (a b c d : Stamps) → a ≡ no_stamps → b ≡ no_stamps → c ≡ no_stamps → d ≡ no_stamps
        → earlier_stamps (earlier_stamps a b) (earlier_stamps c d) ≡ no_stamps
    all_four a b c d p q r s =
        ap (λ x. earlier_stamps (earlier_stamps x b) (earlier_stamps c d)) p
        ∙ ap (λ x. earlier_stamps (earlier_stamps no_stamps x) (earlier_stamps c d)) q
        ∙ ap (λ x. earlier_stamps no_stamps (earlier_stamps x d)) r
        ∙ ap (λ x. earlier_stamps no_stamps (earlier_stamps no_stamps x)) s

module _ (n : ℕ) (lt : n < line_limit) where
  nowhere : slot_of (replicate 16 empty_slot) n ≡ None
  nowhere = slot_of-none (replicate 16 empty_slot) n
      (λ k _. ap (λ x. slot_holds x n) (slice_index_or-replicate 16 k empty_slot))

  line_entry-condensed_new : line_entry condensed_new n ≡ untouched_entry
  line_entry-condensed_new =
      line_entry-in_range condensed_new n lt
      ∙ ap (entry_from (replicate 16 empty_slot) (replicate 4 (replicate 64 no_stamps)) n) nowhere
      ∙ ap free_entry (new_filter_stamps (indices_of n))

  some_slot : (o : Option ℕ) → is_some (option_or o (Some 0)) ≡ true
  some_slot None = refl
  some_slot (Some i) = refl

pub new_condensed : IsNew condensed condensed_new
new_condensed =
    record {
      no_latest = refl;
      no_stamp = λ n lt. ap (λ x. x.stamps.write) (line_entry-condensed_new n lt);
      no_mark = λ n lt. ap (λ x. x.stamps.read) (line_entry-condensed_new n lt);
      no_store = λ n lt. ap entry_stores (line_entry-condensed_new n lt);
      no_owner = λ n lt. ap entry_owner (line_entry-condensed_new n lt);
      free_slot = λ n lt. and_from (ltb n line_limit) _ (lt-ltb n line_limit lt)
          (some_slot n lt (slot_of (replicate 16 empty_slot) n));
    }
