-- The exact book keeps the laws of a book.
use Rattle.std.specs.Prelude.{unwrap_or}
use Rattle.std.specs.Prelude.{◌≡◌, ℕ, ◌+◌, ◌<◌, ◌≤◌, max, Bool, true, false, ◌&&◌}
use Rattle.std.specs.Prelude.{length, ◌≢◌, nat_lt}
use Rattle.std.specs.Prelude.{slice_set}
use Rattle.std.proofs.Common.{⊎_elim, sym, ◌∙◌, length-set, get_or-set_same, get_or-set_other}
use Rattle.std.proofs.Math.Path.{refl, ap, subst}
use native.Mathlib.Omega.{arith}
use Rattle.std.proofs.lemmas.Bool.{cases_eq}
use Rattle.std.proofs.lemmas.Bool.{lt-ltb, ltb-true, and_parts}
use Rattle.protocol.specs.Limits.{line_limit}
use Rattle.book.specs.Time.{Time, earlier}
use Rattle.book.specs.Lemmas.Counting.{counted_most}
use Rattle.book.specs.Meaning.{Keeps, IsNew, IsSoundLine, is_reserved, Notes, Reserves, Adds}
use Rattle.book.specs.Meaning.{Releases, StampsGrow, KeepsReservation}
use Rattle.book.specs.Entries.{untouched_entry, read_stamps, write_stamps, entry_after_read}
use Rattle.book.specs.Entries.{entry_after_reserve, entry_after_add, entry_after_release}
use Rattle.book.specs.Entries.{entry_stores, entry_owner}
use Rattle.book.specs.Exact.{Exact, exact, exact_new, entry_at, with_entry, FitsWithin}
use Rattle.book.specs.declared.entry.Entry.{Entry}
use Rattle.book.specs.Lemmas.Times.{NoEarlier, no_earlier_than_itself, later_stamps_first}
use Rattle.book.specs.Lemmas.Times.{later_stamps_second, later_of_bound}
use Rattle.book.specs.Lemmas.Holds.{positive_unless_zero, hold_stores-hold_of, reserved_has_owner}
use Rattle.book.specs.Lemmas.Holds.{free_has_no_owner}
use Rattle.book.specs.Lemmas.Holds.{entry_owner-after_add}
use Rattle.book.specs.Lemmas.ListSet.{slice_index_or-replicate, holds_after_set}
use Rattle.book.specs.Lemmas.ListSet.{holds_after_set_by_place}

module _ (s : Exact) (good : exact.Good s) where
  exact_lines_are_sound : (line : ℕ) → line < line_limit → IsSoundLine exact s line
  exact_lines_are_sound line lt =
      let e : Entry = entry_at s line in
      record {
        stamp_bound = good.written line;
        mark_bound = good.read line;
        owned = λ h. (_, reserved_has_owner e h);
        stamped = λ h. good.stamped line (positive_unless_zero (entry_stores e) h);
        placed = λ _. lt-ltb line line_limit lt;
        ownerless = λ h. free_has_no_owner e h;
        room = λ _. lt-ltb line line_limit lt;
      }

  -- The state is sound after an entry that fits is set.
  pub sound_with_entry :
      (line : ℕ) (e : Entry) (later : ℕ) → s.latest ≤ later → FitsWithin later e
      → exact.Good (record { entries = slice_set s.entries line e; latest = later })
  sound_with_entry line e later up fits =
      record {
        whole = length-set s.entries line e ∙ good.whole;
        written = λ n.
            holds_after_set (λ x. x.stamps.write ≤ later) s.entries line n e untouched_entry fits.0
            (let h = good.written n in omega arith);
        read = λ n. holds_after_set
            (λ x. x.stamps.read.0 ≤ later) s.entries line n e untouched_entry fits.1
            (let h = good.read n in omega arith);
        stamped = λ n. holds_after_set (λ x. 0 < entry_stores x
            → 0 < x.stamps.write) s.entries line n e untouched_entry fits.2
            (good.stamped n);
      }

  module _ (line : ℕ) (lt : line < line_limit) (e : Entry) (stamp : ℕ) where
    room : line < length s.entries
    room = subst (λ n. line < n) (sym good.whole) lt

    pub entry_at-with_entry : entry_at (with_entry s line e stamp) line ≡ e
    entry_at-with_entry = get_or-set_same s.entries line e untouched_entry room

    pub entry_at-with_entry-other : (n : ℕ) → (n ≢ line)
        → entry_at (with_entry s line e stamp) n ≡ entry_at s n
    entry_at-with_entry-other n ne = get_or-set_other s.entries line n e untouched_entry ne

    -- If the entry's stamps are no earlier than before, no stamp of the book is.
    pub stamps_grow_with : NoEarlier (entry_at s line).stamps e.stamps
        → StampsGrow exact s (with_entry s line e stamp)
    stamps_grow_with up =
        record {
          stamp_grows = λ n _. (step n).0;
          mark_grows = λ n _. (step n).1;
        }
      where
        step : (n : ℕ)
            → NoEarlier (entry_at s n).stamps (entry_at (with_entry s line e stamp) n).stamps
        step n =
            holds_after_set_by_place (λ x. NoEarlier (entry_at s n).stamps x.stamps) s.entries line
            n e untouched_entry room
            (λ same. subst (λ k. NoEarlier (entry_at s k).stamps e.stamps) (sym same) up)
            (λ _. no_earlier_than_itself (entry_at s n).stamps)

    pub other_reservations_stay : (n : ℕ) → (n ≢ line)
        → KeepsReservation exact s (with_entry s line e stamp) n
    other_reservations_stay n ne =
        record {
          same_stores = ap entry_stores (entry_at-with_entry-other n ne);
          same_owner = ap entry_owner (entry_at-with_entry-other n ne);
        }

    -- If the entry keeps its stores and owner, no reservation changes.
    pub all_reservations_stay :
        entry_stores e ≡ entry_stores (entry_at s line)
        → entry_owner e ≡ entry_owner (entry_at s line)
        → (n : ℕ) → KeepsReservation exact s (with_entry s line e stamp) n
    all_reservations_stay counts owners n =
        ⊎_elim
        (λ same.
        subst (λ k. KeepsReservation exact s (with_entry s line e stamp) k) (sym same)
        (record {
          same_stores = ap entry_stores entry_at-with_entry ∙ counts;
          same_owner =
              ap entry_owner entry_at-with_entry ∙ owners;
        }))
        (λ ne. other_reservations_stay n ne)
        (cases_eq n line)

  module _ (line : ℕ) (lt : line < line_limit) where
    old : Entry
    old = entry_at s line

    pub keeps_note :
        (t : Time) → exact.Good (exact.note s line t) × Notes exact s (exact.note s line t) line t
    unfolding old
    keeps_note t =
        let e : Entry = entry_after_read old t in
        let up : NoEarlier old.stamps e.stamps = later_stamps_first old.stamps (read_stamps t) in
        let w = good.written line in
        let r = good.read line in
        let h = good.stamped line in (
          sound_with_entry line e (max s.latest t.0) (omega arith) (
            omega arith,
            later_of_bound old.stamps.read t _ (omega arith) (omega arith),
            (λ c. let p = h c in omega arith),
          ),
          record {
            grows = stamps_grow_with line lt e t.0 up;
            reaches = subst (λ x. earlier x.stamps.read t ≡ false)
                (sym (entry_at-with_entry line lt e t.0))
                (later_stamps_second old.stamps (read_stamps t)).1;
            stays = λ n _. all_reservations_stay line lt e t.0 refl refl n;
            latest_bound = omega arith;
            same_slots = refl;
          },
        )

    keeps_reserve :
        (t : Time) → exact.Good (exact.reserve s line t)
        × Reserves exact s (exact.reserve s line t) line t
    unfolding old
    keeps_reserve t =
        let e : Entry = entry_after_reserve old t in
        let up : NoEarlier old.stamps e.stamps =
        later_stamps_first old.stamps (write_stamps (t.0 + 1)) in
        let here : entry_at (exact.reserve s line t) line ≡ e =
        entry_at-with_entry line lt e (t.0 + 1) in
        let w = good.written line in
        let r = good.read line in (
          sound_with_entry line e (max s.latest (t.0 + 1)) (omega arith) (
            omega arith,
            later_of_bound old.stamps.read (0, 0) _ (omega arith) (omega arith),
            (λ _. omega arith),
          ),
          record {
            grows = stamps_grow_with line lt e (t.0 + 1) up;
            one_store = ap entry_stores here;
            its_owner = ap entry_owner here;
            passes = subst (λ x. t.0 < x.stamps.write) (sym here) (omega arith);
            stays = λ n _ ne. other_reservations_stay line lt e (t.0 + 1) n ne;
            latest_bound = omega arith;
            same_slots = refl;
          },
        )

    keeps_add :
        0 < entry_stores (entry_at s line)
        → exact.Good (exact.add s line) × Adds exact s (exact.add s line) line
    unfolding old
    keeps_add held =
        let e : Entry = entry_after_add old in
        let here : entry_at (exact.add s line) line ≡ e = entry_at-with_entry line lt e 0 in
        let w = good.written line in
        let r = good.read line in
        let h = good.stamped line held in (
          sound_with_entry line e (max s.latest 0) (omega arith) (
            omega arith,
            omega arith,
            (λ _. h),
          ),
          record {
            grows = stamps_grow_with line lt e 0 (no_earlier_than_itself old.stamps);
            one_more = ap entry_stores here ∙ hold_stores-hold_of (unwrap_or (entry_owner old) 0)
                (entry_stores old + 1);
            same_owner = ap entry_owner here ∙ entry_owner-after_add old held;
            stays = λ n _ ne. other_reservations_stay line lt e 0 n ne;
            latest_bound = omega arith;
            same_slots = refl;
          },
        )

    keeps_release : exact.Good (exact.release s line) × Releases exact s (exact.release s line) line
    unfolding old
    keeps_release =
        let e : Entry = entry_after_release old in
        let w = good.written line in
        let r = good.read line in (
          sound_with_entry line e (max s.latest 0) (omega arith)
              (omega arith, omega arith, (λ c. absurd (omega arith))),
          record {
            grows = stamps_grow_with line lt e 0 (no_earlier_than_itself old.stamps);
            no_stores = ap entry_stores (entry_at-with_entry line lt e 0);
            stays = λ n _ ne. other_reservations_stay line lt e 0 n ne;
            latest_bound = omega arith;
            same_slots = refl;
          },
        )

-- The line of a granted call is below the limit.
pub line_in_range : (line : ℕ) (rest : Bool) → (nat_lt line line_limit && rest) ≡ true
    → line < line_limit
line_in_range line rest can =
    ltb-true line line_limit (and_parts (nat_lt line line_limit) rest can).0

pub exact_keeps : Keeps exact
exact_keeps =
    record {
      some_slot = λ s good. omega arith;
      within_slots = λ s good. counted_most (is_reserved exact s) line_limit;
      tells = exact_lines_are_sound;
      notes = λ s good line t can. keeps_note s good line (line_in_range line _ can) t;
      reserves = λ s good line t can. keeps_reserve s good line
          (line_in_range line _ (and_parts _ _ can).0) t;
      adds = λ s good line can.
          keeps_add s good line (line_in_range line _ can)
          (positive_unless_zero (entry_stores (entry_at s line))
          (and_parts _ _ (and_parts _ _ can).1).0);
      releases = λ s good line can. keeps_release s good line (ltb-true line line_limit can);
    }

module _ (n : ℕ) where
  pub entry_at-exact_new : entry_at exact_new n ≡ untouched_entry
  entry_at-exact_new = slice_index_or-replicate 4096 n untouched_entry

pub exact_new_is_sound : exact.Good exact_new
exact_new_is_sound =
    record {
      whole = refl;
      written = λ n. rw (entry_at-exact_new n) (omega arith);
      read = λ n. rw (entry_at-exact_new n) (omega arith);
      stamped = λ n h. absurd (let z = rw (entry_at-exact_new n) at h in omega arith);
    }

pub exact_new_is_new : IsNew exact exact_new
exact_new_is_new =
    record {
      no_latest = refl;
      no_stamp = λ n _. ap (λ x. x.stamps.write) (entry_at-exact_new n);
      no_mark = λ n _. ap (λ x. x.stamps.read) (entry_at-exact_new n);
      no_store = λ n _. ap entry_stores (entry_at-exact_new n);
      no_owner = λ n _. ap entry_owner (entry_at-exact_new n);
      free_slot = λ n lt. lt-ltb n line_limit lt;
    }
