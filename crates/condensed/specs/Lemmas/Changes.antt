-- What each change of the condensed book does to each line, and that the book stays sound.
use Rattle.std.specs.Prelude.{◌≡◌, ℕ, ◌<◌, ◌≤◌, true, false, List, length, get_or, Some, None}
use Rattle.std.specs.Prelude.{Option, ◌==◌, ◌≢◌, slice_index_or, slice_set}
use Rattle.std.proofs.Common.{⊎_elim, ◌∙◌, arith, length-set, get_or-set_same, get_or-set_other}
use Rattle.std.proofs.Math.Path.{refl, sym, ap, subst}
use Rattle.std.proofs.lemmas.Bool.{false_from_ne_true, cases_eq, cond-false, cond_both, eqb-true}
use Rattle.std.proofs.lemmas.Bool.{ne_eqb, eq-eqb}
use Rattle.std.proofs.lemmas.Bool.{both_ways}
use Rattle.protocol.specs.Limits.{line_limit}
use Rattle.book.specs.Entries.{free_entry, entry_stores, entry_owner}
use Rattle.book.specs.Lemmas.Holds.{hold_owner-free}
use Rattle.book.specs.Exact.{FitsWithin}
use Rattle.condensed.specs.Filter.{FourWays, indices_of, stamps_at, filter_stamps, filter_raised_to}
use Rattle.condensed.specs.Condensed.{Condensed, IsSound, empty_slot, is_line, same_line}
use Rattle.condensed.specs.Condensed.{slot_holds, slot_of, entry_from, line_entry}
use Rattle.condensed.specs.Condensed.{slot_holding, slot_line, slot_entry, slots_with}
use Rattle.condensed.specs.Condensed.{filter_after_eviction, filter_raised_for, HoldDistinctLines}
use Rattle.condensed.specs.Condensed.{HoldNumberedLines}
use Rattle.book.specs.declared.entry.Entry.{Entry}
use Rattle.book.specs.declared.entry.Stamps.{Stamps}
use Rattle.condensed.specs.declared.slot.Slot.{Slot}
use Rattle.book.specs.Lemmas.Times.{NoEarlier, no_earlier_than_itself, later_of_bound}
use Rattle.book.specs.Lemmas.ListSet.{holds_after_set, holds_after_set_by_place}
use Rattle.condensed.specs.Lemmas.Indices.{indices_inside}
use Rattle.condensed.specs.Lemmas.Filters.{Grown, raised_grows, raised_each, raised_ways}
use Rattle.condensed.specs.Lemmas.Filters.{raised_reaches, filter_stamps_grow}
use Rattle.condensed.specs.Lemmas.Slots.{IsSlotOf, slot_of_law, slot_of-held, slot_of-none}
use Rattle.condensed.specs.Lemmas.Slots.{is_line_is_some, same_from, same_back, slot_of-same_line}
use Rattle.condensed.specs.Lemmas.Slots.{slot_line-set}
use Rattle.condensed.specs.Lemmas.SoundLines.{line_entry-in_range}

-- A line's stamps are no earlier than before, and its stores and owner are the same.
pub record IsKept (a b : Entry) : Type 0 where
  pub up : NoEarlier a.stamps b.stamps
  pub same_stores : entry_stores b ≡ entry_stores a
  pub same_owner : entry_owner b ≡ entry_owner a

pub kept_if_same : (a b : Entry) → b ≡ a → IsKept a b
kept_if_same a b e =
    record {
      up = subst (λ x. NoEarlier a.stamps x.stamps) (sym e) (no_earlier_than_itself a.stamps);
      same_stores = ap entry_stores e;
      same_owner = ap entry_owner e;
    }

pub kept_free : (a b : Stamps) → NoEarlier a b → IsKept (free_entry a) (free_entry b)
kept_free a b up = record { up = up; same_stores = refl; same_owner = refl }

-- The entry of an evicted line, which no store holds, against the stamps that the filter has for
-- it.
kept_after_eviction : (a : Entry) (b : Stamps) → entry_stores a ≡ 0 → NoEarlier a.stamps b
    → IsKept a (free_entry b)
kept_after_eviction a b none up =
    record {
      up = up;
      same_stores = sym none;
      same_owner = sym (hold_owner-free a.hold none);
    }

-- No stamp in the filter is later than a given one.
pub record IsWithin (filter : List (List Stamps)) (latest : ℕ) : Type 0 where
  pub ways : FourWays filter
  pub written : (way k : ℕ) → (stamps_at filter way k).write ≤ latest
  pub read : (way k : ℕ) → (stamps_at filter way k).read.0 ≤ latest

pub within_raised :
    (filter : List (List Stamps)) (latest later : ℕ) (four : List ℕ) (s : Stamps)
    → IsWithin filter latest
    → latest ≤ later → s.write ≤ later → s.read.0 ≤ later
    → IsWithin (filter_raised_to filter four s) later
within_raised filter latest later four s w up sw sr =
    record {
      ways = raised_ways filter four s w.ways;
      written = raised_each filter four s (λ x. x.write ≤ later) (λ x h. omega arith)
          (λ way k. let h = w.written way k in omega arith);
      read = raised_each filter four s (λ x. x.read.0 ≤ later)
          (λ x h. later_of_bound x.read s.read later h sr)
          (λ way k. let h = w.read way k in omega arith);
    }

pub within_later : (filter : List (List Stamps)) (latest later : ℕ) → IsWithin filter latest
    → latest ≤ later
    → IsWithin filter later
within_later filter latest later w up =
    record {
      ways = w.ways;
      written = λ way k. let h = w.written way k in omega arith;
      read = λ way k. let h = w.read way k in omega arith;
    }

-- A line takes a slot, and the line that was in it is evicted.
abbrev pub moved_to : Condensed → ℕ → ℕ → Entry → ℕ → Condensed
moved_to s line i e later =
    record {
      slots = slice_set s.slots i (slot_holding line e);
      filter = filter_after_eviction s.filter (slice_index_or s.slots i empty_slot) line;
      latest = later;
    }

module _ (s : Condensed) (sound : IsSound s) where
  pub filter_is_within : IsWithin s.filter s.latest
  filter_is_within =
      record { ways = sound.four_ways; written = sound.filter_written; read = sound.filter_read }

  -- The book is sound after a slot with an entry that fits is set.
  pub sound_with :
      (i : ℕ) (x : Slot) (filter : List (List Stamps)) (later : ℕ) → s.latest ≤ later
      → FitsWithin later (slot_entry x)
      → HoldDistinctLines (slice_set s.slots i x) → HoldNumberedLines (slice_set s.slots i x)
      → IsWithin filter later
      → IsSound (record { slots = slice_set s.slots i x; filter = filter; latest = later })
  sound_with i x filter later up fits apart numbered w =
      record {
        sixteen = length-set s.slots i x ∙ sound.sixteen;
        four_ways = w.ways;
        apart = apart;
        numbered = numbered;
        slots_written =
            λ k. holds_after_set (λ y. (slot_entry y).stamps.write ≤ later) s.slots i k x empty_slot
            fits.0
            (let h = sound.slots_written k in omega arith);
        slots_read = λ k. holds_after_set (λ y. (slot_entry y).stamps.read.0 ≤ later) s.slots i k x
            empty_slot fits.1
            (let h = sound.slots_read k in omega arith);
        filter_written = w.written;
        filter_read = w.read;
        slots_stamped = λ k.
            holds_after_set (λ y. 0 < entry_stores (slot_entry y)
            → 0 < (slot_entry y).stamps.write) s.slots i k x empty_slot fits.2
            (sound.slots_stamped k);
      }

  -- Another filter, with entries no earlier, and the same slots.
  module _ (filter : List (List Stamps)) (later : ℕ) where
    with_filter : Condensed
    with_filter = record { slots = s.slots; filter = filter; latest = later }

    pub sound_with_filter : s.latest ≤ later → IsWithin filter later
        → IsSound (record { slots = s.slots; filter = filter; latest = later })
    sound_with_filter up w =
        record {
          sixteen = sound.sixteen;
          four_ways = w.ways;
          apart = sound.apart;
          numbered = sound.numbered;
          slots_written = λ k. let h = sound.slots_written k in omega arith;
          slots_read = λ k. let h = sound.slots_read k in omega arith;
          filter_written = w.written;
          filter_read = w.read;
          slots_stamped = sound.slots_stamped;
        }

    from_kept :
        (n : ℕ) (o : Option ℕ) → Grown s.filter filter
        → IsKept (entry_from s.slots s.filter n o) (entry_from s.slots filter n o)
    from_kept n None up =
        kept_free (filter_stamps s.filter (indices_of n)) (filter_stamps filter (indices_of n))
        (filter_stamps_grow s.filter filter (indices_of n) up)
    from_kept n (Some i) up =
        kept_if_same (slot_entry (get_or s.slots i empty_slot))
        (slot_entry (get_or s.slots i empty_slot)) refl

    pub kept_with_filter :
        Grown s.filter filter → (n : ℕ) → n < line_limit
        → IsKept (line_entry s n)
        (line_entry (record { slots = s.slots; filter = filter; latest = later }) n)
    unfolding with_filter
    kept_with_filter up n lt =
        subst (λ a. IsKept a (line_entry with_filter n)) (sym (line_entry-in_range s n lt))
        (subst (λ b. IsKept (entry_from s.slots s.filter n (slot_of s.slots n)) b)
        (sym (line_entry-in_range with_filter n lt))
        (from_kept n (slot_of s.slots n) up))

  -- The entry of a line in its slot is set.
  module _ (line i : ℕ) (lt : line < line_limit) (here : slot_of s.slots line ≡ Some i) (e : Entry)
      (later : ℕ) where
    x : Slot
    x = slot_holding line e

    at_line : IsSlotOf s.slots line (Some i)
    at_line = subst (IsSlotOf s.slots line) here (slot_of_law s.slots line)

    its_line : Some line ≡ (slot_line (get_or s.slots i empty_slot))
    its_line = sym (is_line_is_some (slot_line (get_or s.slots i empty_slot)) line at_line.1)

    changed : Condensed
    changed = record { slots = slots_with s line i e; filter = s.filter; latest = later }

    pub changed_here :
        line_entry (record { slots = slots_with s line i e; filter = s.filter; latest = later })
        line ≡ e
    unfolding changed x
    changed_here =
        line_entry-in_range changed line lt
        ∙ ap (entry_from (slots_with s line i e) s.filter line)
        (slot_of-same_line s.slots i x its_line line ∙ here)
        ∙ ap slot_entry (get_or-set_same s.slots i x empty_slot at_line.0)

    apart_from : (n : ℕ) (o : Option ℕ) → (n ≢ line) → IsSlotOf s.slots n o
        → entry_from (slots_with s line i e) s.filter n o ≡ entry_from s.slots s.filter n o
    unfolding x
    apart_from n None ne sp = refl
    apart_from n (Some j) ne sp =
        ap slot_entry
        (get_or-set_other s.slots i j x empty_slot (λ same. ne (one_line j same sp.1)))
      where
        one_line : (k : ℕ) → k ≡ i → slot_holds (slice_index_or s.slots k empty_slot) n ≡ true
            → n ≡ line
        one_line k same h =
            let a = is_line_is_some (slot_line (get_or s.slots k empty_slot)) n h in
            let b = is_line_is_some (slot_line (get_or s.slots i empty_slot)) line at_line.1 in
            let c = ap (λ m. (slot_line (get_or s.slots m empty_slot))) same in
            cc

    pub changed_apart :
        (n : ℕ) → n < line_limit → (n ≢ line)
        → line_entry (record { slots = slots_with s line i e; filter = s.filter; latest = later }) n
        ≡ line_entry s n
    unfolding changed x
    changed_apart n within ne =
        line_entry-in_range changed n within
        ∙ ap (entry_from (slots_with s line i e) s.filter n)
        (slot_of-same_line s.slots i x its_line n)
        ∙ apart_from n (slot_of s.slots n) ne (slot_of_law s.slots n)
        ∙ sym (line_entry-in_range s n within)

    pub sound_changed :
        s.latest ≤ later → FitsWithin later e
        → IsSound (record { slots = slots_with s line i e; filter = s.filter; latest = later })
    unfolding x
    sound_changed up fits =
        sound_with i x s.filter later up fits
        (λ a b h. sound.apart a b
        (subst (λ l. same_line l (slot_line (get_or s.slots b empty_slot)) ≡ true)
        (slot_line-set s.slots i x its_line a)
        (subst (λ l. same_line (slot_line (get_or (slice_set s.slots i x) a empty_slot)) l ≡ true)
        (slot_line-set s.slots i x its_line b) h)))
        (λ a n h. sound.numbered a n
        (subst (λ l. is_line l n ≡ true) (slot_line-set s.slots i x its_line a) h))
        (within_later s.filter s.latest later filter_is_within up)

  -- An eviction makes no entry of the filter earlier.
  eviction_grows : (line : ℕ) (stamps : Stamps) (o : Option ℕ)
      → Grown s.filter (filter_raised_for s.filter stamps line o)
  eviction_grows line stamps None = λ way k. no_earlier_than_itself (stamps_at s.filter way k)
  eviction_grows line stamps (Some m) =
      cond_both (m == line) s.filter (filter_raised_to s.filter (indices_of m) stamps)
      (Grown s.filter)
      (λ _ way k. no_earlier_than_itself (stamps_at s.filter way k))
      (λ _. raised_grows s.filter (indices_of m) stamps)

  pub eviction_is_within :
      (line : ℕ) (stamps : Stamps) (o : Option ℕ) → stamps.write ≤ s.latest
      → stamps.read.0 ≤ s.latest
      → IsWithin (filter_raised_for s.filter stamps line o) s.latest
  eviction_is_within line stamps None w r = filter_is_within
  eviction_is_within line stamps (Some m) w r =
      cond_both (m == line) s.filter (filter_raised_to s.filter (indices_of m) stamps)
      (λ f. IsWithin f s.latest)
      (λ _. filter_is_within)
      (λ _. within_raised s.filter s.latest s.latest (indices_of m) stamps filter_is_within
      (omega arith) w r)

  -- A line in no slot takes a slot.
  module _ (line i : ℕ) (lt : line < line_limit) (nowhere : slot_of s.slots line ≡ None)
      (room : i < length s.slots) (e : Entry) where
    abbrev new : Slot
    new = slot_holding line e

    abbrev moved : List Slot
    moved = slots_with s line i e

    not_there : (k : ℕ) → slot_holds (slice_index_or s.slots k empty_slot) line ≢ true
    not_there k h =
        both_ways _ (subst (IsSlotOf s.slots line) nowhere (slot_of_law s.slots line) k) h

    pub moved_apart : HoldDistinctLines (slots_with s line i e)
    moved_apart a b =
        holds_after_set_by_place
        (λ y. same_line (slot_line y) (slot_line (get_or moved b empty_slot)) ≡ true → a ≡ b)
        s.slots i a new empty_slot room
        (λ at.
        holds_after_set_by_place (λ z. same_line (Some line) (slot_line z) ≡ true
        → a ≡ b) s.slots i b new empty_slot room
        (λ same _. at ∙ sym same)
        (λ _ h. absurd (not_there b h)))
        (λ _.
        holds_after_set_by_place
        (λ z. same_line (slot_line (get_or s.slots a empty_slot)) (slot_line z) ≡ true → a ≡ b)
        s.slots i b new empty_slot room
        (λ _ h. absurd (not_there a (same_back (slot_line (get_or s.slots a empty_slot)) line h)))
        (λ _. sound.apart a b))

    pub moved_numbered : HoldNumberedLines (slots_with s line i e)
    moved_numbered a n =
        holds_after_set (λ y. slot_holds y n ≡ true → n < line_limit) s.slots i a new empty_slot
        (λ h. subst (λ m. m < line_limit) (eqb-true line n h) lt) (sound.numbered a n)

  -- No store holds the line that was in the slot, if there was one.
  module _ (line i : ℕ) (lt : line < line_limit) (nowhere : slot_of s.slots line ≡ None)
      (room : i < length s.slots)
      (free : entry_stores (slot_entry (get_or s.slots i empty_slot)) ≡ 0)
      (e : Entry) (later : ℕ) where
    apart_now : HoldDistinctLines (slots_with s line i e)
    apart_now = moved_apart line i lt nowhere room e

    abbrev there : Slot
    there = slot_holding line e

    abbrev old : Slot
    old = slice_index_or s.slots i empty_slot

    abbrev now_in : List Slot
    now_in = slots_with s line i e

    abbrev left : List (List Stamps)
    left = filter_after_eviction s.filter (slice_index_or s.slots i empty_slot) line

    abbrev after : Condensed
    after = moved_to s line i e later

    in_moved : slot_of now_in line ≡ Some i
    in_moved =
        slot_of-held now_in apart_now line i
        (subst (λ y. slot_holds y line ≡ true)
        (sym (get_or-set_same s.slots i there empty_slot room)) (eq-eqb line line refl))

    pub moved_here : line_entry (moved_to s line i e later) line ≡ e
    moved_here =
        line_entry-in_range after line lt ∙ ap (entry_from now_in after.filter line) in_moved
        ∙ ap slot_entry (get_or-set_same s.slots i there empty_slot room)

    out_reaches :
        (n : ℕ) → (n ≢ line) → slot_line old ≡ Some n → NoEarlier (slot_entry old).stamps
        (filter_stamps left (indices_of n))
    out_reaches n ne is =
        let stamps : Stamps = (slot_entry (get_or s.slots i empty_slot)).stamps in
        let gone : left ≡ filter_raised_to s.filter (indices_of n) stamps =
        ap (filter_raised_for s.filter stamps line) is
        ∙ cond-false (n == line) s.filter (filter_raised_to s.filter (indices_of n) stamps)
        (ne_eqb n line ne) in
        subst (λ f. NoEarlier stamps (filter_stamps f (indices_of n))) (sym gone)
        (raised_reaches s.filter (indices_of n) stamps sound.four_ways (indices_inside n))

    -- No slot holds a line that no other slot than the taken one held.
    gone_from :
        (n : ℕ) → (n ≢ line)
        → ((k : ℕ) → (k ≢ i) → slot_holds (slice_index_or s.slots k empty_slot) n ≡ false)
        → slot_of now_in n ≡ None
    gone_from n ne others =
        slot_of-none now_in n
        (λ k _. holds_after_set_by_place (λ y. slot_holds y n ≡ false) s.slots i k there empty_slot
        room
        (λ _. ne_eqb line n (λ e. ne (sym e))) (others k))

    moved_from :
        (n : ℕ) → (n ≢ line) → (o : Option ℕ) → IsSlotOf s.slots n o
        → IsKept (entry_from s.slots s.filter n o) (entry_from now_in left n (slot_of now_in n))
    moved_from n ne None sp =
        let up : Grown s.filter left =
        eviction_grows line (slot_entry (get_or s.slots i empty_slot)).stamps
        (slot_line (get_or s.slots i empty_slot)) in
        subst (λ o. IsKept (entry_from s.slots s.filter n None) (entry_from now_in left n o))
        (sym (gone_from n ne (λ k _. sp k)))
        (kept_free _ _ (filter_stamps_grow s.filter left (indices_of n) up))
    moved_from n ne (Some j) sp = ⊎_elim taken stays (cases_eq j i)
      where
        stays : (j ≢ i)
            → IsKept (slot_entry (get_or s.slots j empty_slot))
            (entry_from now_in left n (slot_of now_in n))
        stays apart =
            let same : get_or now_in j empty_slot ≡ get_or s.slots j empty_slot =
            get_or-set_other s.slots i j there empty_slot apart in
            let found : slot_of now_in n ≡ Some j =
            slot_of-held now_in apart_now n j (subst (λ y. slot_holds y n ≡ true) (sym same) sp.1)
            in
            kept_if_same _ _ (ap (entry_from now_in left n) found ∙ ap slot_entry same)

        taken : j ≡ i
            → IsKept (slot_entry (get_or s.slots j empty_slot))
            (entry_from now_in left n (slot_of now_in n))
        taken at =
            let held : slot_holds (slice_index_or s.slots i empty_slot) n ≡ true =
            subst (λ k. slot_holds (slice_index_or s.slots k empty_slot) n ≡ true) at sp.1 in
            let is : (slot_line (get_or s.slots i empty_slot)) ≡ Some n =
            is_line_is_some (slot_line (get_or s.slots i empty_slot)) n held in
            let gone : slot_of now_in n ≡ None =
            gone_from n ne
            (λ k other. false_from_ne_true _ (λ h. other (sound.apart k i
            (same_from (slot_line (get_or s.slots k empty_slot))
            (slot_line (get_or s.slots i empty_slot)) n h held)))) in
            subst (λ k. IsKept (slot_entry (get_or s.slots k empty_slot))
            (entry_from now_in left n (slot_of now_in n))) (sym at)
            (subst (λ o. IsKept (slot_entry (get_or s.slots i empty_slot))
            (entry_from now_in left n o)) (sym gone)
            (kept_after_eviction (slot_entry (get_or s.slots i empty_slot))
            (filter_stamps left (indices_of n)) free
            (out_reaches n ne is)))

    pub moved_kept : (n : ℕ) → n < line_limit → (n ≢ line)
        → IsKept (line_entry s n) (line_entry (moved_to s line i e later) n)
    moved_kept n within ne =
        subst (λ a. IsKept a (line_entry after n)) (sym (line_entry-in_range s n within))
        (subst (λ b. IsKept (entry_from s.slots s.filter n (slot_of s.slots n)) b)
        (sym (line_entry-in_range after n within))
        (moved_from n ne (slot_of s.slots n) (slot_of_law s.slots n)))

    pub sound_moved : s.latest ≤ later → FitsWithin later e → IsSound (moved_to s line i e later)
    sound_moved up fits =
        sound_with i there left later up fits apart_now (moved_numbered line i lt nowhere room e)
        (within_later left s.latest later
        (eviction_is_within line (slot_entry (get_or s.slots i empty_slot)).stamps
        (slot_line (get_or s.slots i empty_slot))
        (sound.slots_written i) (sound.slots_read i))
        up)
