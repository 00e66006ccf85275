-- The condensed book keeps the laws of a book.
use Rattle.std.specs.Prelude.{unwrap_or}
use Rattle.std.specs.Prelude.{◌≡◌, ℕ, zero, suc, ◌+◌, ◌<◌, ◌≤◌, max, true, false, List, [], map}
use Rattle.std.specs.Prelude.{length, get_or, replicate, is_some, Some, None, Option, ◌==◌, ◌≢◌}
use Rattle.std.specs.Prelude.{nat_lt, slice_index_or}
use Rattle.std.proofs.Common.{⊎_elim, sym, ap, ◌∙◌, arith}
use Rattle.std.proofs.Math.Path.{refl, subst}
use Rattle.std.proofs.lemmas.Bool.{cases_eq, cond-true, eq-eqb, ltb-true, and_parts, both_ways}
use Rattle.protocol.specs.Limits.{line_limit}
use Rattle.choice.specs.Rule.{choice_of}
use Rattle.book.specs.Time.{Time, earlier}
use Rattle.book.specs.Meaning.{Keeps, StampsGrow, KeepsReservation, Notes, Reserves, Adds, Releases}
use Rattle.book.specs.Meaning.{can_note}
use Rattle.book.specs.Entries.{no_stamps, read_stamps, write_stamps, entry_after_read}
use Rattle.book.specs.Entries.{entry_after_reserve, entry_after_add}
use Rattle.book.specs.Entries.{entry_after_release, free_entry, entry_stores, entry_owner}
use Rattle.book.specs.Exact.{FitsWithin}
use Rattle.condensed.specs.Filter.{indices_of, stamps_at, filter_stamps, filter_raised_to}
use Rattle.std.specs.Option.{option_or}
use Rattle.condensed.specs.Condensed.{Condensed, IsSound, condensed, condensed_new, empty_slot}
use Rattle.condensed.specs.Condensed.{same_line, slot_holding, slot_line}
use Rattle.condensed.specs.Condensed.{slot_entry, slot_holds}
use Rattle.condensed.specs.Condensed.{slot_of, slot_key, slot_for, entry_from, line_entry}
use Rattle.condensed.specs.Condensed.{slots_with, after_eviction}
use Rattle.condensed.specs.Condensed.{filter_after_eviction, filter_raised_for, after_note}
use Rattle.condensed.specs.Condensed.{after_reserve, after_change}
use Rattle.book.specs.declared.entry.Entry.{Entry}
use Rattle.book.specs.declared.entry.Stamps.{Stamps}
use Rattle.book.specs.Lemmas.Times.{NoEarlier, no_earlier_than_itself, later_stamps_first}
use Rattle.book.specs.Lemmas.Times.{later_stamps_second, later_of_bound}
use Rattle.book.specs.Lemmas.Holds.{positive_unless_zero, hold_stores-hold_of}
use Rattle.book.specs.Lemmas.Holds.{entry_owner-after_add}
use Rattle.book.specs.Lemmas.ListSet.{slice_index_or-replicate}
use Rattle.book.specs.Lemmas.ExactKeeps.{line_in_range}
use Rattle.condensed.specs.Lemmas.Indices.{indices_inside}
use Rattle.condensed.specs.Lemmas.Filters.{raised_grows, raised_reaches}
use Rattle.condensed.specs.Lemmas.Slots.{IsSlotOf, slot_of_law, is_line_is_some}
use Rattle.condensed.specs.Lemmas.SoundLines.{line_entry-in_range, chosen_slot_is_free}
use Rattle.condensed.specs.Lemmas.SoundLines.{condensed_lines_are_sound, reserved_within_slots}
use Rattle.condensed.specs.Lemmas.Changes.{IsKept, kept_if_same, filter_is_within, within_raised}
use Rattle.condensed.specs.Lemmas.Changes.{sound_with_filter, kept_with_filter}
use Rattle.condensed.specs.Lemmas.Changes.{changed_here, changed_apart, sound_changed, sound_with}
use Rattle.condensed.specs.Lemmas.Changes.{within_later}
use Rattle.condensed.specs.Lemmas.Changes.{eviction_is_within, moved_apart, moved_numbered}
use Rattle.condensed.specs.Lemmas.Changes.{moved_to, moved_here, moved_kept}
use Rattle.condensed.specs.Lemmas.Changes.{sound_moved}

-- If every other line is kept and the stamps of the line get no earlier, no stamp of the book gets
-- earlier.
module _ (s s' : Condensed) (line : ℕ) (others : (n : ℕ) → n < line_limit → (n ≢ line)
    → IsKept (line_entry s n) (line_entry s' n)) where
  grows_by : NoEarlier (line_entry s line).stamps (line_entry s' line).stamps
      → StampsGrow condensed s s'
  grows_by up = record { stamp_grows = λ n lt. (each n lt).0; mark_grows = λ n lt. (each n lt).1 }
    where
      each : (n : ℕ) → n < line_limit → NoEarlier (line_entry s n).stamps (line_entry s' n).stamps
      each n lt =
          ⊎_elim (λ same. subst (λ k. NoEarlier (line_entry s k).stamps (line_entry s' k).stamps)
          (sym same) up)
          (λ ne. (others n lt ne).up) (cases_eq n line)

  stays_by : (n : ℕ) → n < line_limit → (n ≢ line) → KeepsReservation condensed s s' n
  stays_by n lt ne = let k =
      others n lt ne in record { same_stores = k.same_stores; same_owner = k.same_owner }

-- The book is sound after an eviction.
pub sound_after_eviction : (s : Condensed) → IsSound s → (line place : ℕ)
    → IsSound (after_eviction s line place)
sound_after_eviction s sound line place =
    sound_with_filter s sound
    (filter_after_eviction s.filter (slice_index_or s.slots place empty_slot) line) s.latest
    (omega arith)
    (eviction_is_within s sound line (slot_entry (get_or s.slots place empty_slot)).stamps
    (slot_line (get_or s.slots place empty_slot))
    (sound.slots_written place) (sound.slots_read place))

rises : {a b c d : Entry} → a ≡ c → b ≡ d → NoEarlier c.stamps d.stamps
    → NoEarlier a.stamps b.stamps
rises {b = b} {c = c} p q up =
    subst (λ x. NoEarlier x.stamps b.stamps) (sym p)
    (subst (λ y. NoEarlier c.stamps y.stamps) (sym q) up)

-- A read of a line in no slot.
pub sound_after_note : (s : Condensed) → IsSound s → (line : ℕ) (t : Time)
    → IsSound (after_note s line t None)
sound_after_note s sound line t =
    let later : ℕ = max s.latest t.0 in
    sound_with_filter s sound (filter_raised_to s.filter (indices_of line) (read_stamps t)) later
    (omega arith)
    (within_raised s.filter s.latest later (indices_of line) (read_stamps t)
    (filter_is_within s sound) (omega arith)
    (omega arith) (omega arith))

module _ (s : Condensed) (sound : IsSound s) (line : ℕ) (lt : line < line_limit) where
  bound_write : (line_entry s line).stamps.write ≤ s.latest
  bound_write = (condensed_lines_are_sound s sound line lt).stamp_bound

  bound_read : (line_entry s line).stamps.read.0 ≤ s.latest
  bound_read = (condensed_lines_are_sound s sound line lt).mark_bound

  in_its_slot : (i : ℕ) → slot_of s.slots line ≡ Some i
      → line_entry s line ≡ (slot_entry (get_or s.slots i empty_slot))
  in_its_slot i here = line_entry-in_range s line lt ∙ ap (entry_from s.slots s.filter line) here

  module _ (t : Time) where
    pub notes_by :
        (o : Option ℕ) → slot_of s.slots line ≡ o
        → IsSound (after_note s line t o) × Notes condensed s (after_note s line t o) line t
    notes_by None nowhere =
        let later : ℕ = max s.latest t.0 in
        let filter : List (List Stamps) =
        filter_raised_to s.filter (indices_of line) (read_stamps t) in
        let after : Condensed = record { slots = s.slots; filter = filter; latest = later } in
        let kept : (n : ℕ) → n < line_limit → IsKept (line_entry s n) (line_entry after n) =
        kept_with_filter s sound filter later
        (raised_grows s.filter (indices_of line) (read_stamps t)) in
        let here : line_entry after line ≡ free_entry (filter_stamps filter (indices_of line)) =
        line_entry-in_range after line lt ∙ ap (entry_from s.slots filter line) nowhere in (
          sound_after_note s sound line t,
          record {
            grows = grows_by s after line (λ n l _. kept n l) (kept line lt).up;
            reaches = subst (λ e. earlier e.stamps.read t ≡ false) (sym here)
                (raised_reaches s.filter (indices_of line) (read_stamps t) sound.four_ways
                (indices_inside line)).1;
            stays = λ n l.
                record { same_stores = (kept n l).same_stores; same_owner = (kept n l).same_owner };
            latest_bound = omega arith;
            same_slots = refl;
          },
        )
    notes_by (Some i) here =
        let later : ℕ = max s.latest t.0 in
        let was : Entry = (slot_entry (get_or s.slots i empty_slot)) in
        let e : Entry = entry_after_read was t in
        let after : Condensed =
        record { slots = slots_with s line i e; filter = s.filter; latest = later } in
        let is : line_entry after line ≡ e = changed_here s sound line i lt here e later in
        let before : line_entry s line ≡ was = in_its_slot i here in
        let kept : (n : ℕ) → n < line_limit → (n ≢ line)
        → IsKept (line_entry s n) (line_entry after n) =
        λ n l ne. kept_if_same (line_entry s n) (line_entry after n)
        (changed_apart s sound line i lt here e later n l ne) in
        let w = sound.slots_written i in
        let r = sound.slots_read i in
        let h = sound.slots_stamped i in (
          sound_changed s sound line i lt here e later (omega arith) (
            omega arith,
            later_of_bound was.stamps.read t later (omega arith) (omega arith),
            (λ c. let p = h c in omega arith),
          ),
          record {
            grows = grows_by s after line kept
                (rises before is (later_stamps_first was.stamps (read_stamps t)));
            reaches = subst (λ x. earlier x.stamps.read t ≡ false) (sym is)
                (later_stamps_second was.stamps (read_stamps t)).1;
            stays = λ n l.
                ⊎_elim
                (λ same. subst (λ k. KeepsReservation condensed s after k) (sym same)
                (record {
                  same_stores = ap entry_stores is ∙ sym (ap entry_stores before);
                  same_owner = ap entry_owner is ∙ sym (ap entry_owner before);
                }))
                (stays_by s after line kept n l) (cases_eq n line);
            latest_bound = omega arith;
            same_slots = refl;
          },
        )

    -- The line starts from its entry before the call.
    e : Entry
    e = entry_after_reserve (line_entry s line) t

    later : ℕ
    later = max s.latest (t.0 + 1)

    fits : FitsWithin (max s.latest (t.0 + 1)) (entry_after_reserve (line_entry s line) t)
    fits =
        let w = bound_write in
        let r = bound_read in (
          omega arith,
          later_of_bound (line_entry s line).stamps.read (0, 0) (max s.latest (t.0 + 1))
              (omega arith)
              (omega arith),
          (λ _. omega arith),
        )

    reserves_after :
        (after : Condensed) → line_entry after line ≡ entry_after_reserve (line_entry s line) t
        → after.latest ≡ max s.latest (t.0 + 1)
        → ((n : ℕ) → n < line_limit → (n ≢ line) → IsKept (line_entry s n) (line_entry after n))
        → Reserves condensed s after line t
    reserves_after after is latest kept =
        record {
          grows = grows_by s after line kept (rises {a = line_entry s line} refl is
              (later_stamps_first (line_entry s line).stamps (write_stamps (t.0 + 1))));
          one_store = ap entry_stores is;
          its_owner = ap entry_owner is;
          passes = subst (λ x. t.0 < x.stamps.write) (sym is) (omega arith);
          stays = stays_by s after line kept;
          latest_bound = omega arith;
          same_slots = refl;
        }

    pub reserves_by :
        (o c : Option ℕ) → slot_of s.slots line ≡ o → choice_of (map slot_key s.slots) ≡ c
        → is_some (option_or o c) ≡ true
        → IsSound (after_reserve s line t (option_or o c))
        × Reserves condensed s (after_reserve s line t (option_or o c)) line t
    unfolding e later
    reserves_by None None nowhere none some = absurd (both_ways false refl some)
    reserves_by None (Some i) nowhere is some =
        let free = chosen_slot_is_free s.slots i is in (
          sound_moved s sound line i lt nowhere free.0 free.1 e later (omega arith) fits,
          reserves_after (moved_to s line i e later) (moved_here s sound line i lt nowhere free.0
              free.1 e later) refl
              (moved_kept s sound line i lt nowhere free.0 free.1 e later),
        )
    reserves_by (Some i) c here _ some =
        subst (λ x. IsSound x × Reserves condensed s x line t) same (
          sound_changed s sound line i lt here e later (omega arith) fits,
          reserves_after _ (changed_here s sound line i lt here e later) refl
              (λ n l ne. kept_if_same (line_entry s n) _
              (changed_apart s sound line i lt here e later n l ne)),
        )
      where
        its_line : (slot_line (get_or s.slots i empty_slot)) ≡ Some line
        its_line = is_line_is_some (slot_line (get_or s.slots i empty_slot)) line
            (subst (IsSlotOf s.slots line) here (slot_of_law s.slots line)).1

        with_filter : List (List Stamps) → Condensed
        with_filter filter =
            record {
              slots = slots_with s line i (entry_after_reserve (line_entry s line) t);
              filter = filter;
              latest =
                  max s.latest (t.0 + 1);
            }

        same : with_filter s.filter ≡ after_reserve s line t (Some i)
        same =
            ap with_filter
            (sym (ap (filter_raised_for s.filter
            (slot_entry (get_or s.slots i empty_slot)).stamps line) its_line
            ∙ cond-true (line == line) s.filter _ (eq-eqb line line refl)))

  -- The book is sound after a line is written into the slot for it, with an entry that fits.
  pub sound_with_slot :
      (e : Entry) (place later : ℕ) → slot_for s.slots line ≡ Some place → s.latest ≤ later
      → FitsWithin later e
      → IsSound (record { slots = slots_with s line place e; filter = s.filter; latest = later })
  sound_with_slot e place later is up fits =
      by (slot_of s.slots line) (choice_of (map slot_key s.slots)) refl refl is
    where
      by :
          (o c : Option ℕ) → slot_of s.slots line ≡ o → choice_of (map slot_key s.slots) ≡ c
          → option_or o c ≡ Some place
          → IsSound (record {
            slots = slots_with s line place e;
            filter = s.filter;
            latest = later;
          })
      by None c nowhere chose here =
          sound_with s sound place (slot_holding line e) s.filter later up fits
          (moved_apart s sound line place lt nowhere
          (chosen_slot_is_free s.slots place (chose ∙ here)).0 e)
          (moved_numbered s sound line place lt nowhere
          (chosen_slot_is_free s.slots place (chose ∙ here)).0 e)
          (within_later s.filter s.latest later (filter_is_within s sound) up)
      by (Some i) c there chose here =
          sound_changed s sound line place lt (there ∙ here) e later up fits

  pub adds_by :
      (o : Option ℕ) → slot_of s.slots line ≡ o → 0 < entry_stores (line_entry s line)
      → IsSound (after_change s line entry_after_add o)
      × Adds condensed s (after_change s line entry_after_add o) line
  adds_by None nowhere held =
      absurd (subst (λ x. 0 < entry_stores x → ⊥)
      (sym (line_entry-in_range s line lt ∙ ap (entry_from s.slots s.filter line) nowhere))
      (λ h. omega arith) held)
  adds_by (Some i) here held =
      let was : Entry = (slot_entry (get_or s.slots i empty_slot)) in
      let e' : Entry = entry_after_add was in
      let after : Condensed =
      record { slots = slots_with s line i e'; filter = s.filter; latest = max s.latest 0 } in
      let is : line_entry after line ≡ e' =
      changed_here s sound line i lt here e' (max s.latest 0) in
      let before : line_entry s line ≡ was = in_its_slot i here in
      let kept : (n : ℕ) → n < line_limit → (n ≢ line)
      → IsKept (line_entry s n) (line_entry after n) =
      λ n l ne. kept_if_same (line_entry s n) (line_entry after n)
      (changed_apart s sound line i lt here e'
      (max s.latest 0) n l ne) in
      let had : 0 < entry_stores was = subst (λ x. 0 < entry_stores x) before held in
      let w : was.stamps.write ≤ max s.latest 0 = let h = sound.slots_written i in omega arith in
      let r : was.stamps.read.0 ≤ max s.latest 0 = let h = sound.slots_read i in omega arith in (
        sound_changed s sound line i lt here e' (max s.latest 0) (omega arith)
            (w, r, (λ _. sound.slots_stamped i had)),
        record {
          grows = grows_by s after line kept (rises before is (no_earlier_than_itself was.stamps));
          one_more = ap entry_stores is ∙ hold_stores-hold_of (unwrap_or (entry_owner was) 0)
              (entry_stores was + 1)
              ∙ sym (ap (λ x. entry_stores x + 1) before);
          same_owner = ap entry_owner is ∙ entry_owner-after_add was had
              ∙ sym (ap entry_owner before);
          stays = stays_by s after line kept;
          latest_bound = omega arith;
          same_slots = refl;
        },
      )

  pub releases_by :
      (o : Option ℕ) → slot_of s.slots line ≡ o
      → IsSound (after_change s line entry_after_release o)
      × Releases condensed s (after_change s line entry_after_release o) line
  releases_by None nowhere =
      let kept : (n : ℕ) → n < line_limit → (n ≢ line) → IsKept (line_entry s n) (line_entry s n) =
      λ n _ _. kept_if_same (line_entry s n) (line_entry s n) refl in (
        sound,
        record {
          grows = grows_by s s line kept (no_earlier_than_itself (line_entry s line).stamps);
          no_stores = ap entry_stores
              (line_entry-in_range s line lt ∙ ap (entry_from s.slots s.filter line) nowhere);
          stays = stays_by s s line kept;
          latest_bound = omega arith;
          same_slots = refl;
        },
      )
  releases_by (Some i) here =
      let was : Entry = (slot_entry (get_or s.slots i empty_slot)) in
      let e' : Entry = entry_after_release was in
      let after : Condensed =
      record { slots = slots_with s line i e'; filter = s.filter; latest = max s.latest 0 } in
      let is : line_entry after line ≡ e' =
      changed_here s sound line i lt here e' (max s.latest 0) in
      let kept : (n : ℕ) → n < line_limit → (n ≢ line)
      → IsKept (line_entry s n) (line_entry after n) =
      λ n l ne. kept_if_same (line_entry s n) (line_entry after n)
      (changed_apart s sound line i lt here e'
      (max s.latest 0) n l ne) in
      let w : was.stamps.write ≤ max s.latest 0 = let h = sound.slots_written i in omega arith in
      let r : was.stamps.read.0 ≤ max s.latest 0 = let h = sound.slots_read i in omega arith in (
        sound_changed s sound line i lt here e' (max s.latest 0) (omega arith)
            (w, r, (λ c. absurd (omega arith))),
        record {
          grows = grows_by s after line kept
              (rises (in_its_slot i here) is (no_earlier_than_itself was.stamps));
          no_stores = ap entry_stores is;
          stays = stays_by s after line kept;
          latest_bound = omega arith;
          same_slots = refl;
        },
      )

pub condensed_keeps : Keeps condensed
condensed_keeps =
    record {
      some_slot = λ s sound. omega arith;
      within_slots = reserved_within_slots;
      tells = condensed_lines_are_sound;
      notes = λ s sound line t can. notes_by s sound line (line_in_range line _ can) t
          (slot_of s.slots line) refl;
      reserves = λ s sound line t can.
          let parts = and_parts (can_note condensed s line t) _ can in
          reserves_by s sound line (line_in_range line _ parts.0) t (slot_of s.slots line)
          (choice_of (map slot_key s.slots)) refl refl
          (and_parts (nat_lt line line_limit) _ (and_parts _ _ parts.1).1).1;
      adds = λ s sound line can.
          adds_by s sound line (line_in_range line _ can) (slot_of s.slots line) refl
          (positive_unless_zero (entry_stores (line_entry s line))
          (and_parts _ _ (and_parts _ _ can).1).0);
      releases = λ s sound line can. releases_by s sound line (ltb-true line line_limit can)
          (slot_of s.slots line) refl;
    }

module _ (n : ℕ) where
  new_slot : get_or (replicate 16 empty_slot) n empty_slot ≡ empty_slot
  new_slot = slice_index_or-replicate 16 n empty_slot

pub new_stamps : (ways way k : ℕ)
    → stamps_at (replicate ways (replicate 64 no_stamps)) way k ≡ no_stamps
new_stamps zero way k = refl
new_stamps (suc ways) zero k = slice_index_or-replicate 64 k no_stamps
new_stamps (suc ways) (suc way) k = new_stamps ways way k

new_ways : (ways way : ℕ) → way < ways
    → length (get_or (replicate ways (replicate 64 no_stamps)) way []) ≡ 64
new_ways zero way lt = absurd (omega arith)
new_ways (suc ways) zero lt = refl
new_ways (suc ways) (suc way) lt = new_ways ways way (omega arith)

pub sound_new : IsSound condensed_new
sound_new =
    record {
      sixteen = refl;
      four_ways = record { four = refl; each = new_ways 4 };
      apart = λ i j h.
          absurd (both_ways _ refl
          (subst (λ x. same_line (slot_line x)
          (slot_line (get_or (replicate 16 empty_slot) j empty_slot)) ≡ true) (new_slot i) h));
      numbered = λ i n h.
          absurd (both_ways _ refl (subst (λ x. slot_holds x n ≡ true) (new_slot i) h));
      slots_written = λ i. subst (λ x. (slot_entry x).stamps.write ≤ 0) (sym (new_slot i))
          (omega arith);
      slots_read = λ i. subst (λ x. (slot_entry x).stamps.read.0 ≤ 0) (sym (new_slot i))
          (omega arith);
      filter_written = λ way i. subst (λ x. x.write ≤ 0) (sym (new_stamps 4 way i)) (omega arith);
      filter_read = λ way i. subst (λ x. x.read.0 ≤ 0) (sym (new_stamps 4 way i)) (omega arith);
      slots_stamped =
          λ i h. absurd (no_stores (subst (λ x. 0 < entry_stores (slot_entry x)) (new_slot i) h));
    }
  where
    no_stores : 0 < 0 → ⊥
    no_stores h = omega arith
