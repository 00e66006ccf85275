-- What each call of a book changes, from the promises that every book keeps.
use Rattle.std.proofs.Common.{◌≡◌, ℕ, ◌+◌, ◌<◌, ◌≤◌, Bool, true, false, cond, not, ◌&&◌, ◌||◌, eqb}
use Rattle.std.proofs.Common.{ltb, leb, List, [], ◌∷◌, None, fold, sym, refl, ap, ◌∙◌, subst}
use Rattle.std.proofs.Common.{⊎_elim, arith}
use Rattle.std.proofs.lemmas.Bool.{both_ways, eqb-true, eq-eqb, cases_eq, ltb-true, lt-ltb, le-leb}
use Rattle.std.proofs.lemmas.Bool.{and_from, or_parts, not_from_false}
use Rattle.std.proofs.lemmas.Bool.Decides.{nat_tests}
use Rattle.protocol.specs.Limits.{line_limit, warp_limit, last_stamp}
use Rattle.book.specs.Meaning.{Kind, Keeps, is_reserved, can_note, can_reserve, can_add}
use Rattle.book.specs.Meaning.{can_release, state_after_note, state_after_reserve, state_after_add}
use Rattle.book.specs.Meaning.{state_after_release}
use Rattle.book.specs.Time.{Time, earlier}
use Rattle.rules.specs.Lists.{contains_number}
use Rattle.rules.proofs.History.{mark_rises, Grown, Reserved}

earlier_same : (t : Time) → earlier t t ≡ false
earlier_same t = grind (arith, nat_tests)

module _ (k : Kind) (keeps : Keeps k) where
  sound : (line t w : ℕ) (s : k.State) → line < line_limit → t ≤ last_stamp → w < 32
      → can_note k s line (t, w) ≡ true
  sound line t w s a b c =
      and_from (ltb line line_limit) (leb t last_stamp && ltb w warp_limit)
      (lt-ltb line line_limit a)
      (and_from (leb t last_stamp) (ltb w warp_limit) (le-leb t last_stamp b)
      (lt-ltb w warp_limit c))

  -- After a read is noted.
  pub record Noted (s s' : k.State) (line t w : ℕ) : Type 0 where
    pub good : k.Good s'
    pub grown : Grown k s s'
    pub reaches : earlier (k.read_mark s' line) (t, w) ≡ false
    pub counts : (at : ℕ) → at < line_limit → k.stores s' at ≡ k.stores s at

  pub after_note :
      (s : k.State) → k.Good s → (line t w : ℕ) → line < line_limit → t ≤ last_stamp → w < 32
      → Noted s (state_after_note k s line (t, w)) line t w
  after_note s good line t w a b c =
      let can = sound line t w s a b c in
      let n = keeps.notes s good line (t, w) can in
      subst (λ b. Noted s (cond b (k.note s line (t, w)) s) line t w) (sym can)
      (record {
        good = n.0;
        grown =
            record {
              stamps = n.1.grows.stamp_grows;
              marks = n.1.grows.mark_grows;
              owners = λ at l. (n.1.stays at l).same_owner;
            };
        reaches = n.1.reaches;
        counts = λ at l. (n.1.stays at l).same_stores;
      })

  -- After a store is added to the count of a line.
  pub record Added (s s' : k.State) (line : ℕ) : Type 0 where
    pub good : k.Good s'
    pub grown : Grown k s s'
    pub one_more : k.stores s' line ≡ k.stores s line + 1
    pub counts : (at : ℕ) → at < line_limit → (at ≡ line → ⊥) → k.stores s' at ≡ k.stores s at

  pub after_add :
      (s : k.State) → k.Good s → (line : ℕ) → can_add k s line ≡ true
      → Added s (state_after_add k s line) line
  after_add s good line can =
      let n = keeps.adds s good line can in
      subst (λ b. Added s (cond b (k.add s line) s) line) (sym can)
      (record {
        good = n.0;
        grown =
            record {
              stamps = n.1.grows.stamp_grows;
              marks = n.1.grows.mark_grows;
              owners =
                  λ at l.
                  ⊎_elim (λ e. ap (k.owner (k.add s line)) e ∙ n.1.same_owner
                  ∙ ap (k.owner s) (sym e))
                  (λ e. (n.1.stays at l e).same_owner) (cases_eq at line);
            };
        one_more = n.1.one_more;
        counts = λ at l e. (n.1.stays at l e).same_stores;
      })

  -- A line without an owner is not reserved.
  not_reserved :
      (s : k.State) → k.Good s → (line : ℕ) → line < line_limit → k.owner s line ≡ None
      → is_reserved k s line ≡ false
  not_reserved s good line l none = step (is_reserved k s line) refl
    where
      step : (b : Bool) → is_reserved k s line ≡ b → b ≡ false
      step true e =
          let o = (keeps.tells s good line l).owned e in
          let p = o.1 in
          cc
      step false e = refl

  -- After a line is reserved.
  pub record ReservedByCall (s s' : k.State) (line t w : ℕ) : Type 0 where
    pub good : k.Good s'
    pub took : Reserved k s s' w line t
    pub one_store : k.stores s' line ≡ 1
    pub counts : (at : ℕ) → at < line_limit → (at ≡ line → ⊥) → k.stores s' at ≡ k.stores s at

  pub after_reservation :
      (s : k.State) → k.Good s → (line t w : ℕ) → line < line_limit → t ≤ last_stamp → w < 32
      → k.owner s line ≡ None → k.has_slot s line ≡ true → k.write_stamp s line ≤ t
      → earlier (t, w) (k.read_mark s line) ≡ false
      → ReservedByCall s (state_after_reserve k s line (t, w)) line t w
  after_reservation s good line t w a b c none slot below unread =
      let can : can_reserve k s line (t, w) ≡ true =
      and_from (can_note k s line (t, w)) (not (is_reserved k s line) && k.has_slot s line)
      (sound line t w s a b c)
      (and_from (not (is_reserved k s line)) (k.has_slot s line)
      (not_from_false (is_reserved k s line) (not_reserved s good line a none)) slot)
      in
      let n = keeps.reserves s good line (t, w) can in
      subst (λ b. ReservedByCall s (cond b (k.reserve s line (t, w)) s) line t w) (sym can)
      (record {
        good = n.0;
        took =
            record {
              stamps = n.1.grows.stamp_grows;
              marks = n.1.grows.mark_grows;
              others = λ at l e. (n.1.stays at l e).same_owner;
              nobody = none;
              mine = n.1.its_owner;
              not_written = below;
              now_written = n.1.passes;
              not_read = unread;
              warp_low = c;
              line_low = a;
            };
        one_store = n.1.one_store;
        counts = λ at l e. (n.1.stays at l e).same_stores;
      })

  -- After some lines are released.
  pub record Freed (s s' : k.State) (lines : List ℕ) : Type 0 where
    pub good : k.Good s'
    pub stamps : (line : ℕ) → line < line_limit → k.write_stamp s line ≤ k.write_stamp s' line
    pub marks : (line : ℕ) → line < line_limit
        → earlier (k.read_mark s' line) (k.read_mark s line) ≡ false
    pub released_ones : (line : ℕ) → line < line_limit → contains_number line lines ≡ true
        → k.owner s' line ≡ None
    pub others : (line : ℕ) → line < line_limit → contains_number line lines ≡ false
        → k.owner s' line ≡ k.owner s line
    pub counts : (line : ℕ) → line < line_limit → contains_number line lines ≡ false
        → k.stores s' line ≡ k.stores s line
    pub still_none : (line : ℕ) → line < line_limit → k.owner s line ≡ None → k.owner s' line ≡ None

  after_one : (s : k.State) → k.Good s → (line : ℕ)
      → Freed s (state_after_release k s line) (line ∷ [])
  after_one s good line = step (can_release k s line) refl
    where
      step : (b : Bool) → can_release k s line ≡ b
          → Freed s (cond b (k.release s line) s) (line ∷ [])
      step true can =
          let n = keeps.releases s good line can in
          let free : k.owner (k.release s line) line ≡ None =
          (keeps.tells (k.release s line) n.0 line (ltb-true line line_limit can)).ownerless
          (ap (λ c. not (eqb c 0)) n.1.no_stores)
          in
          let away : (at : ℕ) → line ≡ at → k.owner (k.release s line) at ≡ None =
          λ at e. subst (λ z. k.owner (k.release s line) z ≡ None) e free
          in
          record {
            good = n.0;
            stamps = n.1.grows.stamp_grows;
            marks = n.1.grows.mark_grows;
            released_ones = λ at l h. away at (eqb-true line at (or_false (eqb line at) h));
            others =
                λ at l h.
                (n.1.stays at l
                (λ e. both_ways (eqb line at) (or_parts (eqb line at) false h).0
                (eq-eqb line at (sym e)))
                ).same_owner;
            counts =
                λ at l h.
                (n.1.stays at l
                (λ e. both_ways (eqb line at) (or_parts (eqb line at) false h).0
                (eq-eqb line at (sym e)))
                ).same_stores;
            still_none =
                λ at l h.
                ⊎_elim (λ e. away at (sym e)) (λ e. (n.1.stays at l e).same_owner ∙ h)
                (cases_eq at line);
          }
        where
          or_false : (e : Bool) → (e || false) ≡ true → e ≡ true
          or_false true r = refl
          or_false false r = r
      step false can =
          record {
            good = good;
            stamps = λ at l. omega arith;
            marks = λ at l. earlier_same (k.read_mark s at);
            released_ones =
                λ at l h.
                let e : line ≡ at = eqb-true line at (or_false (eqb line at) h) in
                let low : line < line_limit = omega arith in
                absurd (both_ways (can_release k s line) can (lt-ltb line line_limit low));
            others = λ at l h. refl;
            counts = λ at l h. refl;
            still_none = λ at l h. h;
          }
        where
          or_false : (e : Bool) → (e || false) ≡ true → e ≡ true
          or_false true r = refl
          or_false false r = r

  pub after_release : (s : k.State) → k.Good s → (lines : List ℕ)
      → Freed s (fold (state_after_release k) s lines) lines
  after_release s good [] =
      record {
        good = good;
        stamps = λ at l. omega arith;
        marks = λ at l. earlier_same (k.read_mark s at);
        released_ones = λ at l h. absurd (both_ways false refl h);
        others = λ at l h. refl;
        counts = λ at l h. refl;
        still_none = λ at l h. h;
      }
  after_release s good (line ∷ lines) =
      let one = after_one s good line in
      let rest = after_release (state_after_release k s line) one.good lines in
      record {
        good = rest.good;
        stamps = λ at l. let a = one.stamps at l in let b = rest.stamps at l in omega arith;
        marks =
            λ at l.
            mark_rises (k.read_mark (state_after_release k s line) at)
            (k.read_mark (fold (state_after_release k) (state_after_release k s line) lines) at)
            (k.read_mark s at)
            (one.marks at l) (rest.marks at l);
        released_ones = λ at l h. freed at l one rest (eqb line at) refl h;
        others =
            λ at l h.
            let p = or_parts (eqb line at) (contains_number at lines) h in
            rest.others at l p.1 ∙ one.others at l (ap (λ b. b || false) p.0);
        counts =
            λ at l h.
            let p = or_parts (eqb line at) (contains_number at lines) h in
            rest.counts at l p.1 ∙ one.counts at l (ap (λ b. b || false) p.0);
        still_none = λ at l h. rest.still_none at l (one.still_none at l h);
      }
    where
      freed :
          (at : ℕ) → at < line_limit → Freed s (state_after_release k s line) (line ∷ [])
          → Freed (state_after_release k s line)
          (fold (state_after_release k) (state_after_release k s line) lines) lines
          → (b : Bool) → eqb line at ≡ b → (b || contains_number at lines) ≡ true
          → k.owner (fold (state_after_release k) (state_after_release k s line) lines) at ≡ None
      freed at l one rest true e h =
          rest.still_none at l (one.released_ones at l (ap (λ b. b || false) e))
      freed at l one rest false e h = rest.released_ones at l h
