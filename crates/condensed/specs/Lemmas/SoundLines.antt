-- Each line of the condensed book is sound, and has a slot while fewer than sixteen lines are
-- reserved.
use Rattle.std.specs.Prelude.{◌≡◌, ℕ, ◌<◌, ◌≤◌, true, false, List, map, length, get_or, is_some}
use Rattle.std.specs.Prelude.{Some, None, Option, nat_eq, nat_lt, slice_index_or}
use Rattle.std.proofs.Math.Path.{refl}
use Rattle.std.proofs.Common.{sym, ap, subst, ◌∙◌, arith}
use Rattle.std.proofs.lemmas.List.{get_or-map, length-map}
use Rattle.std.proofs.lemmas.Bool.Decides.{nat_tests}
use Rattle.std.proofs.lemmas.Bool.{cond-true, ne_eqb, eq-eqb, lt-ltb, and_from, both_ways}
use Rattle.std.proofs.lemmas.Bool.{not_from_false}
use Rattle.protocol.specs.Limits.{line_limit}
use Rattle.choice.specs.Rule.{IsChoice, FirstSmallest, choice_of}
use Rattle.choice.proofs.ChoiceLaw.{choice_law, within}
use Rattle.book.specs.Meaning.{IsSoundLine, is_reserved, reserved_count}
use Rattle.book.specs.Entries.{untouched_entry, entry_stores}
use Rattle.condensed.specs.Filter.{indices_of}
use Rattle.std.specs.Option.{option_or}
use Rattle.condensed.specs.Condensed.{Condensed, IsSound, condensed, empty_slot, is_line}
use Rattle.condensed.specs.Condensed.{occupant_line, occupant_entry, slot_line, slot_entry}
use Rattle.condensed.specs.Condensed.{slot_holds, slot_of, slot_key, occupant_key}
use Rattle.condensed.specs.Condensed.{slot_for, entry_from, line_entry}
use Rattle.book.specs.declared.entry.Entry.{Entry}
use Rattle.condensed.specs.declared.slot.Occupant.{Occupant}
use Rattle.condensed.specs.declared.slot.Slot.{Slot}
use Rattle.book.specs.Lemmas.Holds.{reserved_has_owner, free_has_no_owner, positive_unless_zero}
use Rattle.condensed.specs.Lemmas.Filters.{filter_stamps_write_bound, filter_stamps_read_bound}
use Rattle.condensed.specs.Lemmas.Slots.{IsSlotOf, slot_of_law, is_line_is_some, slot_of-held}
use Rattle.condensed.specs.Lemmas.Slots.{same_from}
use Rattle.book.specs.Lemmas.Counting.{different_lines, placed_lines}

-- The entry of a line below the limit is that of its slot, or has the stamps of the filter.
pub line_entry-in_range : (s : Condensed) (n : ℕ) → n < line_limit → line_entry s n
    ≡ entry_from s.slots s.filter n (slot_of s.slots n)
line_entry-in_range s n lt =
    cond-true (nat_lt n line_limit) (entry_from s.slots s.filter n (slot_of s.slots n))
    untouched_entry
    (lt-ltb n line_limit lt)

-- The slot of a line that is reserved, as its key is none.
reserved_without_key : (o : Option Occupant) → occupant_key o ≡ None
    → (n : ℕ) × (is_line (occupant_line o) n ≡ true) × (0 < entry_stores (occupant_entry o))
reserved_without_key None h = absurd cc
reserved_without_key (Some there) h =
    (there.line, eq-eqb there.line there.line refl, grind (arith, nat_tests))

free_with_key : (o : Option Occupant) (key : ℕ) → occupant_key o ≡ Some key
    → entry_stores (occupant_entry o) ≡ 0
free_with_key None key h = refl
free_with_key (Some there) key h = grind (arith, nat_tests)

too_many : (n : ℕ) → n < 16 → 16 ≤ n → is_some {T = ℕ} None ≡ true
too_many n few all = absurd (omega arith)

-- A chosen slot is one of the slots, and no store holds the line in it.
pub chosen_slot_is_free :
    (slots : List Slot) (place : ℕ) → choice_of (map slot_key slots) ≡ Some place
    → (place < length slots) × (entry_stores (slot_entry (get_or slots place empty_slot)) ≡ 0)
chosen_slot_is_free slots place is =
    let law : FirstSmallest (map slot_key slots) place = subst (IsChoice (map slot_key slots)) is
    (choice_law (map slot_key slots)) in
    let room : place < length (map slot_key slots) =
    within (map slot_key slots) place law.key law.allowed in
    let lt : place < length slots = subst (λ n. place < n) (length-map slots slot_key) room in
    let key : slot_key (slice_index_or slots place empty_slot) ≡ Some law.key =
    sym (get_or-map slot_key slots place empty_slot None lt) ∙ law.allowed in
    (lt, free_with_key (get_or slots place empty_slot).occupant law.key key)

module _ (s : Condensed) (sound : IsSound s) where
  bound_written : (n : ℕ) (o : Option ℕ) → (entry_from s.slots s.filter n o).stamps.write ≤ s.latest
  bound_written n None =
      filter_stamps_write_bound s.filter (indices_of n) s.latest sound.filter_written
  bound_written n (Some i) = sound.slots_written i

  bound_read : (n : ℕ) (o : Option ℕ) → (entry_from s.slots s.filter n o).stamps.read.0 ≤ s.latest
  bound_read n None = filter_stamps_read_bound s.filter (indices_of n) s.latest sound.filter_read
  bound_read n (Some i) = sound.slots_read i

  held_stamped : (n : ℕ) (o : Option ℕ) → 0 < entry_stores (entry_from s.slots s.filter n o)
      → 0 < (entry_from s.slots s.filter n o).stamps.write
  held_stamped n None h = absurd (omega arith)
  held_stamped n (Some i) h = sound.slots_stamped i h

  -- A line that stores hold is in a slot.
  held_placed : (n : ℕ) (o other : Option ℕ) → 0 < entry_stores (entry_from s.slots s.filter n o)
      → is_some (option_or o other) ≡ true
  held_placed n None other h = absurd (omega arith)
  held_placed n (Some i) other h = refl

  pub line_at : ℕ → ℕ
  line_at k = elim (slot_line (get_or s.slots k empty_slot)) [ None ↦ 0 | Some n ↦ n ]

  -- Each reserved line is in a slot of its own, so no more than sixteen are reserved.
  in_slots :
      (n : ℕ) (o : Option ℕ) → IsSlotOf s.slots n o
      → 0 < entry_stores (entry_from s.slots s.filter n o)
      → (i : ℕ) × (i < 16) × (line_at i ≡ n)
      × (0 < entry_stores (slot_entry (get_or s.slots i empty_slot)))
  unfolding line_at
  in_slots n None sp held = absurd (omega arith)
  in_slots n (Some i) sp held =
      let sixteen = sound.sixteen in
      let is : slot_line (get_or s.slots i empty_slot) ≡ Some n =
      is_line_is_some (slot_line (get_or s.slots i empty_slot)) n sp.1 in
      (i, omega (arith, sp.0), ap (λ o. elim o [ None ↦ 0 | Some m ↦ m ]) is, held)

  pub reserved_line_has_slot :
      (n : ℕ) → n < line_limit → is_reserved condensed s n ≡ true
      → (i : ℕ) × (i < 16) × (line_at i ≡ n)
      × (0 < entry_stores (slot_entry (get_or s.slots i empty_slot)))
  reserved_line_has_slot n lt held =
      in_slots n (slot_of s.slots n) (slot_of_law s.slots n)
      (subst (λ e. 0 < entry_stores e) (line_entry-in_range s n lt)
      (positive_unless_zero (entry_stores (line_entry s n)) held))

  pub reserved_within_slots : reserved_count condensed s ≤ 16
  reserved_within_slots =
      placed_lines 16 line_limit line_at (is_reserved condensed s)
      (λ n lt held. let place = reserved_line_has_slot n lt held in (place.0, place.1, place.2))

  -- If no slot is free, sixteen lines are reserved.
  module _ (full : (k : ℕ) → k < 16 → slot_key (slice_index_or s.slots k empty_slot) ≡ None) where
    in_line : (k : ℕ) → k < 16 → slot_holds (slice_index_or s.slots k empty_slot) (line_at k) ≡ true
    unfolding line_at
    in_line k l =
        let found = reserved_without_key (get_or s.slots k empty_slot).occupant (full k l) in
        by (slot_line (get_or s.slots k empty_slot)) found.0 found.1
      where
        by : (o : Option ℕ) (n : ℕ) → is_line o n ≡ true
            → is_line o (elim o [ None ↦ 0 | Some m ↦ m ]) ≡ true
        by None n h = absurd (both_ways false refl h)
        by (Some m) n h = eq-eqb m m refl

    held_line : (k : ℕ) → k < 16 → is_reserved condensed s (line_at k) ≡ true
    held_line k l =
        let found = reserved_without_key (get_or s.slots k empty_slot).occupant (full k l) in
        let here = in_line k l in
        let lt = sound.numbered k (line_at k) here in
        let is : line_entry s (line_at k) ≡ (slot_entry (get_or s.slots k empty_slot)) =
        line_entry-in_range s (line_at k) lt
        ∙ ap (entry_from s.slots s.filter (line_at k))
        (slot_of-held s.slots sound.apart (line_at k) k here) in
        not_from_false _ (ap (λ e. nat_eq (entry_stores e) 0) is
        ∙ ne_eqb (entry_stores (slot_entry (get_or s.slots k empty_slot))) 0
        (let h = found.2 in omega arith))

    pub all_reserved : 16 ≤ reserved_count condensed s
    all_reserved =
        different_lines 16 line_limit line_at (is_reserved condensed s)
        (λ k l. (sound.numbered k (line_at k) (in_line k l), held_line k l))
        (λ i j l m e. sound.apart i j
        (same_from (slot_line (get_or s.slots i empty_slot))
        (slot_line (get_or s.slots j empty_slot)) (line_at i) (in_line i l)
        (subst (λ n. slot_holds (slice_index_or s.slots j empty_slot) n ≡ true) (sym e)
        (in_line j m))))

  some_place :
      (o other : Option ℕ) → other ≡ choice_of (map slot_key s.slots)
      → reserved_count condensed s < 16
      → is_some (option_or o other) ≡ true
  some_place (Some i) other is few = refl
  some_place None (Some i) is few = refl
  some_place None None is few =
      let none : IsChoice (map slot_key s.slots) None =
      subst (IsChoice (map slot_key s.slots)) (sym is)
      (choice_law (map slot_key s.slots)) in
      let all = all_reserved (λ k l.
      sym (get_or-map slot_key s.slots k empty_slot None (subst (λ m. k < m) (sym sound.sixteen) l))
      ∙ none k) in
      too_many (reserved_count condensed s) few all

  pub condensed_lines_are_sound : (line : ℕ) → line < line_limit → IsSoundLine condensed s line
  condensed_lines_are_sound line lt =
      let e : Entry = line_entry s line in
      let o : Option ℕ = slot_of s.slots line in
      let from : e ≡ entry_from s.slots s.filter line o = line_entry-in_range s line lt in
      record {
        stamp_bound = subst (λ x. x.stamps.write ≤ s.latest) (sym from) (bound_written line o);
        mark_bound = subst (λ x. x.stamps.read.0 ≤ s.latest) (sym from) (bound_read line o);
        owned = λ h. (_, reserved_has_owner e h);
        stamped = λ h.
            subst (λ x. 0 < entry_stores x → 0 < x.stamps.write) (sym from) (held_stamped line o)
            (positive_unless_zero (entry_stores e) h);
        placed = λ h.
            and_from (nat_lt line line_limit) (is_some (slot_for s.slots line))
            (lt-ltb line line_limit lt)
            (held_placed line o (choice_of (map slot_key s.slots))
            (subst (λ x. 0 < entry_stores x) from (positive_unless_zero (entry_stores e) h)));
        ownerless = λ h. free_has_no_owner e h;
        room = λ few.
            and_from (nat_lt line line_limit) (is_some (slot_for s.slots line))
            (lt-ltb line line_limit lt)
            (some_place o (choice_of (map slot_key s.slots)) refl few);
      }
