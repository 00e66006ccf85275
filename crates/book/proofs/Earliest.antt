-- No book has earlier stamps than the exact one.
use Rattle.std.specs.Prelude.{unwrap_or}
use Rattle.std.proofs.Common.{◌≡◌, ℕ, ◌+◌, ◌<◌, ◌≤◌, max, Bool, true, false, cond, not, ◌&&◌, eqb}
use Rattle.std.proofs.Common.{ltb, leb, List, [], ◌∷◌, length, Ok, Err, sym, refl, ap, ◌∙◌, subst}
use Rattle.std.proofs.Common.{arith}
use Rattle.std.proofs.lemmas.Bool.{cond-true, and_parts, and_from, lt-ltb, ltb-true, leb-true}
use Rattle.std.proofs.lemmas.Bool.{leb-false}
use Rattle.protocol.specs.Limits.{line_limit, log_limit}
use Rattle.book.specs.Time.{earlier}
use Rattle.book.specs.Meaning.{Kind, Keeps, IsNew, StampsGrow, can_note, is_reserved}
use Rattle.book.specs.Entries.{untouched_entry, entry_after_read, entry_after_reserve}
use Rattle.book.specs.Entries.{entry_after_add, entry_after_release}
use Rattle.book.specs.Entries.{entry_stores, entry_owner}
use Rattle.book.specs.Exact.{Exact, exact, exact_new, entry_at, with_entry}
use Rattle.book.specs.Earliest.{is_granted, state_after_granted, state_after_call, both_after_call}
use Rattle.book.specs.Earliest.{both_after_calls, NeverEarlierThanExact}
use Rattle.book.specs.Grants.{grant_result}
use Rattle.book.specs.declared.refused.Refused.{Refused}
use Rattle.book.specs.declared.entry.Entry.{Entry}
use Rattle.book.specs.declared.call.BookCall.{BookCall}
use Rattle.book.specs.declared.call.BookCall.TheVariants.{Note, Reserve, Add, Release}
use Rattle.book.specs.Lemmas.Times.{not_earlier_chain, not_earlier_than_zero, later_of_least}
use Rattle.book.specs.Lemmas.Times.{later_of_second, stamp_bound_by_time}
use Rattle.book.specs.Lemmas.ListSet.{holds_after_set_by_place}
use Rattle.book.specs.Lemmas.Holds.{hold_stores-hold_of}
use Rattle.book.specs.Lemmas.ExactKeeps.{exact_keeps, exact_new_is_sound, entry_at-exact_new}
use Rattle.book.specs.Lemmas.ExactKeeps.{line_in_range, entry_at-with_entry}

-- Some line of the exact book has a stamp as late as its latest stamp.
LatestIsReached : Exact → Type 0
LatestIsReached e = (n : ℕ) × (n < line_limit)
    × (e.latest ≤ max (entry_at e n).stamps.write (entry_at e n).stamps.read.0)

module _ (e : Exact) (fine : exact.Good e) (line : ℕ) (lt : line < line_limit) (x : Entry)
    (stamp : ℕ) where
  latest_reached_with :
      StampsGrow exact e (with_entry e line x stamp) → stamp ≤ max x.stamps.write x.stamps.read.0
      → LatestIsReached e
      → LatestIsReached (with_entry e line x stamp)
  unfolding LatestIsReached
  latest_reached_with grows has reached = by (leb stamp e.latest) refl
    where
      by : (b : Bool) → leb stamp e.latest ≡ b → LatestIsReached (with_entry e line x stamp)
      by true up =
          let more = leb-true stamp e.latest up in
          let w = grows.stamp_grows reached.0 reached.1 in
          let after : Entry = entry_at (with_entry e line x stamp) reached.0 in
          let r = stamp_bound_by_time (entry_at e reached.0).stamps.read after.stamps.read
          (grows.mark_grows reached.0 reached.1) in
          (reached.0, reached.1, (let was = reached.2 in omega arith))
      by false up =
          let less = leb-false stamp e.latest up in
          (line, lt, rw (entry_at-with_entry e fine line lt x stamp) (omega arith))

module _ (k : Kind) (keeps : Keeps k) where
  -- What stays true of the two books: the exact one is no later, and both count the same stores.
  record Follows (s : k.State) (e : Exact) : Type 0 where
    good : k.Good s
    fine : exact.Good e
    stamps : (n : ℕ) → n < line_limit → (entry_at e n).stamps.write ≤ k.write_stamp s n
    marks : (n : ℕ) → n < line_limit → earlier (k.read_mark s n) (entry_at e n).stamps.read ≡ false
    counts : (n : ℕ) → n < line_limit → entry_stores (entry_at e n) ≡ k.stores s n
    reached : LatestIsReached e

  -- One entry of the exact book is set, no later than what the other book says of the line.
  module _ (s s' : k.State) (e : Exact) (f : Follows s e) (line : ℕ) (lt : line < line_limit)
      (x : Entry)
      (stamp : ℕ) where
    follows_with :
        k.Good s' → exact.Good (with_entry e line x stamp) → StampsGrow k s s'
        → StampsGrow exact e (with_entry e line x stamp)
        → stamp ≤ max x.stamps.write x.stamps.read.0
        → x.stamps.write ≤ k.write_stamp s' line
        → earlier (k.read_mark s' line) x.stamps.read ≡ false
        → entry_stores x ≡ k.stores s' line
        → ((n : ℕ) → n < line_limit → (n ≡ line → ⊥) → k.stores s' n ≡ k.stores s n)
        → Follows s' (with_entry e line x stamp)
    follows_with good fine grows later has w r c same =
        record {
          good = good;
          fine = fine;
          stamps = λ n l. holds_after_set_by_place
              (λ y. y.stamps.write ≤ k.write_stamp s' n) e.entries line n x untouched_entry room
              (λ is. subst (λ m. x.stamps.write ≤ k.write_stamp s' m) (sym is) w)
              (λ _. let a = f.stamps n l in let b = grows.stamp_grows n l in omega arith);
          marks = λ n l. holds_after_set_by_place
              (λ y. earlier (k.read_mark s' n) y.stamps.read ≡ false)
              e.entries line n x untouched_entry room
              (λ is. subst (λ m. earlier (k.read_mark s' m) x.stamps.read ≡ false) (sym is) r)
              (λ _. not_earlier_chain (entry_at e n).stamps.read (k.read_mark s n)
              (k.read_mark s' n) (f.marks n l)
              (grows.mark_grows n l));
          counts = λ n l. holds_after_set_by_place
              (λ y. entry_stores y ≡ k.stores s' n) e.entries line n x untouched_entry room
              (λ is. subst (λ m. entry_stores x ≡ k.stores s' m) (sym is) c)
              (λ ne. f.counts n l ∙ sym (same n l ne));
          reached = latest_reached_with e f.fine line lt x stamp later has f.reached;
        }
      where
        room : line < length e.entries
        room = subst (λ m. line < m) (sym f.fine.whole) lt

  module _ (s : k.State) (e : Exact) (f : Follows s e) where
    same_count :
        (line : ℕ) → line < line_limit → (P : ℕ → Type 0) → P (k.stores s line)
        → P (entry_stores (entry_at e line))
    same_count line lt P h = subst P (sym (f.counts line lt)) h

    granted_too : (call : BookCall) → is_granted k s call ≡ true → is_granted exact e call ≡ true
    granted_too (Note line t) can = can
    granted_too (Reserve line t) can =
        let parts = and_parts (can_note k s line t)
        (not (is_reserved k s line) && k.has_slot s line) can in
        let lt : line < line_limit = line_in_range line _ parts.0 in
        and_from (can_note exact e line t) (not (is_reserved exact e line) && exact.has_slot e line)
        parts.0
        (and_from (not (is_reserved exact e line)) (exact.has_slot e line)
        (same_count line lt (λ m. not (not (eqb m 0)) ≡ true)
        (and_parts (not (is_reserved k s line)) (k.has_slot s line) parts.1).0)
        (lt-ltb line line_limit lt))
    granted_too (Add line) can =
        let lt : line < line_limit = line_in_range line _ can in
        same_count line lt (λ m. (ltb line line_limit && (not (eqb m 0) && ltb m log_limit)) ≡ true)
        can
    granted_too (Release line) can = can

    granted_step : (call : BookCall) → is_granted k s call ≡ true
        → Follows (state_after_granted k s call) (state_after_granted exact e call)
    granted_step (Note line t) can =
        let lt : line < line_limit = line_in_range line _ can in
        let there = keeps.notes s f.good line t can in
        let here = exact_keeps.notes e f.fine line t (granted_too (Note line t) can) in
        let grows = there.1.grows in
        let a = f.stamps line lt in
        let b = grows.stamp_grows line lt in
        follows_with s (k.note s line t) e f line lt
        (entry_after_read (entry_at e line) t) t.0 there.0
        here.0 grows here.1.grows
        (let l = stamp_bound_by_time t _ (later_of_second (entry_at e line).stamps.read t)
        in omega arith) (omega arith)
        (later_of_least (entry_at e line).stamps.read t (k.read_mark (k.note s line t) line)
        (not_earlier_chain _ (k.read_mark s line) _ (f.marks line lt) (grows.mark_grows line lt))
        there.1.reaches)
        (f.counts line lt ∙ sym (there.1.stays line lt).same_stores)
        (λ n l _. (there.1.stays n l).same_stores)
    granted_step (Reserve line t) can =
        let lt : line < line_limit = line_in_range line _ (and_parts _ _ can).0 in
        let there = keeps.reserves s f.good line t can in
        let here = exact_keeps.reserves e f.fine line t (granted_too (Reserve line t) can) in
        let grows = there.1.grows in
        let a = f.stamps line lt in
        let b = grows.stamp_grows line lt in
        let c = there.1.passes in
        follows_with s (k.reserve s line t) e f line lt (entry_after_reserve (entry_at e line) t)
        (t.0 + 1) there.0
        here.0 grows here.1.grows (omega arith) (omega arith)
        (later_of_least (entry_at e line).stamps.read (0, 0) (k.read_mark (k.reserve s line t) line)
        (not_earlier_chain _ (k.read_mark s line) _ (f.marks line lt) (grows.mark_grows line lt))
        (not_earlier_than_zero (k.read_mark (k.reserve s line t) line)))
        (sym there.1.one_store) (λ n l ne. (there.1.stays n l ne).same_stores)
    granted_step (Add line) can =
        let lt : line < line_limit = line_in_range line _ can in
        let there = keeps.adds s f.good line can in
        let here = exact_keeps.adds e f.fine line (granted_too (Add line) can) in
        let grows = there.1.grows in
        let a = f.stamps line lt in
        let b = grows.stamp_grows line lt in
        follows_with s (k.add s line) e f line lt
        (entry_after_add (entry_at e line)) 0 there.0 here.0 grows here.1.grows
        (omega arith) (omega arith)
        (not_earlier_chain _ (k.read_mark s line) _ (f.marks line lt) (grows.mark_grows line lt))
        (hold_stores-hold_of (unwrap_or (entry_owner (entry_at e line)) 0) _
        ∙ ap (λ m. m + 1) (f.counts line lt)
        ∙ sym there.1.one_more) (λ n l ne. (there.1.stays n l ne).same_stores)
    granted_step (Release line) can =
        let lt : line < line_limit = ltb-true line line_limit can in
        let there = keeps.releases s f.good line can in
        let here = exact_keeps.releases e f.fine line can in
        let grows = there.1.grows in
        let a = f.stamps line lt in
        let b = grows.stamp_grows line lt in
        follows_with s (k.release s line) e f line lt
        (entry_after_release (entry_at e line)) 0 there.0 here.0 grows
        here.1.grows (omega arith) (omega arith)
        (not_earlier_chain _ (k.read_mark s line) _ (f.marks line lt) (grows.mark_grows line lt))
        (sym there.1.no_stores) (λ n l ne. (there.1.stays n l ne).same_stores)

  Followed : k.State × Exact → Type 0
  Followed both = Follows both.0 both.1

  step : (both : k.State × Exact) → Followed both → (call : BookCall)
      → Followed (both_after_call k both call)
  unfolding Followed
  step both f call = by (is_granted k both.0 call) refl
    where
      by : (b : Bool) → is_granted k both.0 call ≡ b → Followed
          (cond b (state_after_granted k both.0 call, state_after_call exact both.1 call) both)
      by true can =
          subst (λ e. Follows (state_after_granted k both.0 call) e)
          (sym (cond-true (is_granted exact both.1 call)
          (state_after_granted exact both.1 call) both.1
          (granted_too both.0 both.1 f call can)))
          (granted_step both.0 both.1 f call can)
      by false can = f

  run : (both : k.State × Exact) → Followed both → (calls : List BookCall)
      → Followed (both_after_calls k both calls)
  run both f [] = f
  run both f (call ∷ calls) = run (both_after_call k both call) (step both f call) calls

  start : (s : k.State) → k.Good s → IsNew k s → Followed (s, exact_new)
  unfolding Followed LatestIsReached
  start s good new =
      record {
        good = good;
        fine = exact_new_is_sound;
        stamps = λ n l. subst (λ x. x.stamps.write ≤ k.write_stamp s n) (sym (entry_at-exact_new n))
            (omega arith);
        marks = λ n l. subst (λ x. earlier (k.read_mark s n) x.stamps.read ≡ false)
            (sym (entry_at-exact_new n))
            (not_earlier_than_zero (k.read_mark s n));
        counts = λ n l. ap entry_stores (entry_at-exact_new n) ∙ sym (new.no_store n l);
        reached = (0, omega arith, omega arith);
      }

  no_later : (s : k.State) (e : Exact) → Follows s e → exact.latest e ≤ k.latest s
  unfolding LatestIsReached
  no_later s e f =
      let n : ℕ = f.reached.0 in
      let lt : n < line_limit = f.reached.1 in
      let sound = keeps.tells s f.good n lt in
      let reached = f.reached.2 in
      let w = f.stamps n lt in
      let r = stamp_bound_by_time (entry_at e n).stamps.read (k.read_mark s n) (f.marks n lt) in
      let bound = sound.stamp_bound in
      let mark = sound.mark_bound in
      omega arith

  pub exact_is_earliest : NeverEarlierThanExact k
  unfolding Followed
  exact_is_earliest s good new calls =
      let both : k.State × Exact = both_after_calls k (s, exact_new) calls in
      let f : Follows both.0 both.1 = run (s, exact_new) (start s good new) calls in
      record {
        stamps = f.stamps;
        marks = f.marks;
        latest = no_later both.0 both.1 f;
        grants_too = granted_too both.0 both.1 f;
      }

-- What a book answers says whether both get the call.
module _ (k : Kind) (s s' : k.State) (e e' : Exact) (call : BookCall)
    (after : s' ≡ state_after_call k s call) where
  pub both_made : Ok tt ≡ grant_result (is_granted k s call) → e' ≡ state_after_call exact e call
      → (s', e') ≡ both_after_call k (s, e) call
  both_made answer also = by (is_granted k s call) after answer
    where
      by :
          (b : Bool) → s' ≡ cond b (state_after_granted k s call) s → Ok tt ≡ grant_result b
          → ◌≡◌ {A = k.State × Exact} (s', e')
          (cond b (state_after_granted k s call, state_after_call exact e call) (s, e))
      by true is h = λ i. (is i, also i)
      by false is h = absurd cc

  pub neither_made : (r : Refused) → Err r ≡ grant_result (is_granted k s call)
      → (s', e) ≡ both_after_call k (s, e) call
  neither_made r answer = by (is_granted k s call) after answer
    where
      by :
          (b : Bool) → s' ≡ cond b (state_after_granted k s call) s → Err r ≡ grant_result b
          → ◌≡◌ {A = k.State × Exact} (s', e)
          (cond b (state_after_granted k s call, state_after_call exact e call) (s, e))
      by true is h = absurd cc
      by false is h = λ i. (is i, e)

pub ruleset made_of_both = (both_made, neither_made)
