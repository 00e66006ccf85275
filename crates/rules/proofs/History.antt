-- What holds between the transactions of a run, the book and the memory, and how each change of the
-- book keeps it.
use Rattle.std.proofs.Common.{◌≡◌, ℕ, ◌<◌, ◌≤◌, Bool, true, false, cond, ◌&&◌, eqb, ◌⊎◌, List}
use Rattle.std.proofs.Common.{length, is_some, Some, None, Option, sym, refl, ap, ◌∙◌, subst, inl}
use Rattle.std.proofs.Common.{inr, arith}
use Rattle.std.proofs.lemmas.Bool.{both_ways, eqb-true, eqb-false, eq-eqb, cases_eq}
use Rattle.std.proofs.lemmas.Bool.Decides.{nat_tests}
use Rattle.protocol.specs.Limits.{line_limit}
use Rattle.memory.specs.Lines.{Lines}
use Rattle.book.specs.Meaning.{Kind}
use Rattle.book.specs.Time.{Time, earlier}
use Rattle.rules.specs.Lists.{contains_number, last_of}
use Rattle.rules.specs.Transactions.{Source, Transaction, transaction_named, writers}
use Rattle.rules.specs.Transactions.{committed_source}
use Rattle.rules.proofs.SerialAccount.{source_value, writer, EachLoad}
use Rattle.rules.proofs.SerialOrders.{key, stamp_at, IsRightSource}

-- The stamp at which a warp's transaction holds a line, if it holds it.
abbrev pub Holding : Type 0
Holding = ℕ → ℕ → Option ℕ

-- Logical times as numbers, and read marks between them.
pub mark_rises : (a b c : Time) → earlier a c ≡ false → earlier b a ≡ false → earlier b c ≡ false
mark_rises a b c p q = grind (arith, nat_tests)

pub key_rises :
    (s w t v : ℕ) (m : Time) → w < 32 → earlier m (s, w) ≡ false → earlier (t, v) m ≡ false
    → key s w ≤ key t v
key_rises s w t v m l p q = grind (arith, nat_tests)

-- A warp reserves a line that nobody holds.
abbrev pub with_hold : Holding → ℕ → ℕ → ℕ → Holding
with_hold H w at t h line = cond (eqb h w && eqb line at) (Some t) (H h line)

-- A warp releases some lines.
abbrev pub without_holds : Holding → ℕ → List ℕ → Holding
without_holds H w gone h line = cond (eqb h w && contains_number line gone) None (H h line)

module _ (k : Kind) where
  -- The book changes so that no write stamp and no read mark gets smaller, and no owner changes.
  pub record Grown (s s' : k.State) : Type 0 where
    pub stamps : (line : ℕ) → line < line_limit → k.write_stamp s line ≤ k.write_stamp s' line
    pub marks : (line : ℕ) → line < line_limit
        → earlier (k.read_mark s' line) (k.read_mark s line) ≡ false
    pub owners : (line : ℕ) → line < line_limit → k.owner s' line ≡ k.owner s line

  pub record Reserved (s s' : k.State) (w at t : ℕ) : Type 0 where
    pub stamps : (line : ℕ) → line < line_limit → k.write_stamp s line ≤ k.write_stamp s' line
    pub marks : (line : ℕ) → line < line_limit
        → earlier (k.read_mark s' line) (k.read_mark s line) ≡ false
    pub others : (line : ℕ) → line < line_limit → (line ≡ at → ⊥) → k.owner s' line ≡ k.owner s line
    pub nobody : k.owner s at ≡ None
    pub mine : k.owner s' at ≡ Some w
    pub not_written : k.write_stamp s at ≤ t
    pub now_written : t < k.write_stamp s' at
    pub not_read : earlier (t, w) (k.read_mark s at) ≡ false
    pub warp_low : w < 32
    pub line_low : at < line_limit

  -- The book releases some lines that a warp holds.
  pub record Released (H : Holding) (s s' : k.State) (w : ℕ) (gone : List ℕ) : Type 0 where
    pub its : (line : ℕ) → contains_number line gone ≡ true → (t : ℕ) × (H w line ≡ Some t)
    pub stamps : (line : ℕ) → line < line_limit → k.write_stamp s line ≤ k.write_stamp s' line
    pub marks : (line : ℕ) → line < line_limit
        → earlier (k.read_mark s' line) (k.read_mark s line) ≡ false
    pub released : (line : ℕ) → line < line_limit → contains_number line gone ≡ true
        → k.owner s' line ≡ None
    pub others : (line : ℕ) → line < line_limit → contains_number line gone ≡ false
        → k.owner s' line ≡ k.owner s line

module _ (k : Kind) (first : Lines) where
  -- A warp that holds a line: it is the line's owner in the book, and its stamp is below the line's
  -- write stamp and above every writer's.
  pub record Holder (txs : List Transaction) (lines : Lines) (s : k.State) (h line t : ℕ) :
      Type 0 where
    pub warp_low : h < 32
    pub line_low : line < line_limit
    pub owns : k.owner s line ≡ Some h
    pub passes : t < k.write_stamp s line
    pub there : is_some (lines line) ≡ true
    pub above : (j : ℕ) → writer first txs line j ≡ true → stamp_at first txs j < t

  -- What holds of writers, holders and memory.
  pub record Core (txs : List Transaction) (H : Holding) (lines : Lines) (s : k.State) :
      Type 0 where
    pub sorted :
        (line i j : ℕ) → i < j → writer first txs line i ≡ true → writer first txs line j ≡ true
        → stamp_at first txs i < stamp_at first txs j
    pub warps : (i : ℕ) → i < length txs → (transaction_named txs i).warp < 32
    pub line_low : (line i : ℕ) → writer first txs line i ≡ true → line < line_limit
    pub there : (line i : ℕ) → writer first txs line i ≡ true → is_some (first line) ≡ true
    pub passes : (line i : ℕ) → writer first txs line i ≡ true
        → stamp_at first txs i < k.write_stamp s line
    pub last : (line : ℕ)
        → lines line ≡ source_value first txs line (committed_source (last_of (writers txs line)))
    pub same_lines : (line : ℕ) → is_some (lines line) ≡ is_some (first line)
    pub holder : (h line t : ℕ) → H h line ≡ Some t → Holder txs lines s h line t
    pub owner_holds : (line h : ℕ) → line < line_limit → k.owner s line ≡ Some h
        → (t : ℕ) × (H h line ≡ Some t)

  -- What holds of a load by a transaction with a place, a stamp and a warp.
  pub record ReadNow
      (txs : List Transaction) (H : Holding) (s : k.State) (place stamp warp line v : ℕ)
      (f : Source)
      : Type 0
    where
      pub right : IsRightSource first txs place stamp warp line v f
      pub line_low : line < line_limit
      pub marked : earlier (k.read_mark s line) (stamp, warp) ≡ false
      pub held : (h t : ℕ) → H h line ≡ Some t → key stamp warp ≤ key t h

  abbrev pub Reads : List Transaction → Holding → k.State → ℕ → Transaction → Type 0
  Reads txs H s place tx = EachLoad (ReadNow txs H s place tx.stamp tx.warp) tx.actions

  module _ (txs : List Transaction) (H : Holding) (lines : Lines) (s s' : k.State)
      (g : Grown k s s') where
    pub core_grown : Core txs H lines s → Core txs H lines s'
    core_grown c =
        record {
          sorted = c.sorted;
          warps = c.warps;
          line_low = c.line_low;
          there = c.there;
          passes =
              λ line i w.
              let a = c.passes line i w in
              let b = g.stamps line (c.line_low line i w) in
              omega arith;
          last = c.last;
          same_lines = c.same_lines;
          holder =
              λ h line t e.
              let old = c.holder h line t e in
              record {
                warp_low = old.warp_low;
                line_low = old.line_low;
                owns = g.owners line old.line_low ∙ old.owns;
                passes = let a = old.passes in let b = g.stamps line old.line_low in omega arith;
                there = old.there;
                above = old.above;
              };
          owner_holds = λ line h l e. c.owner_holds line h l (sym (g.owners line l) ∙ e);
        }

    pub read_grown :
        (place stamp warp line v : ℕ) (f : Source) → ReadNow txs H s place stamp warp line v f
        → ReadNow txs H s' place stamp warp line v f
    read_grown place stamp warp line v f r =
        record {
          right = r.right;
          line_low = r.line_low;
          marked =
              mark_rises (k.read_mark s line) (k.read_mark s' line) (stamp, warp) r.marked
              (g.marks line r.line_low);
          held = r.held;
        }

  module _
      (txs : List Transaction) (H : Holding) (lines : Lines) (s s' : k.State) (w at t : ℕ)
      (g : Reserved k s s' w at t)
    where
      hold_cases :
          (h line u : ℕ) → with_hold H w at t h line ≡ Some u
          → ((h ≡ w) × (line ≡ at) × (u ≡ t)) ⊎ (H h line ≡ Some u)
      hold_cases h line u e = step (eqb h w) refl (eqb line at) refl e
        where
          step :
              (b : Bool) → eqb h w ≡ b → (c : Bool) → eqb line at ≡ c
              → cond (b && c) (Some t) (H h line) ≡ Some u
              → ((h ≡ w) × (line ≡ at) × (u ≡ t)) ⊎ (H h line ≡ Some u)
          step true p true q r = inl (eqb-true h w p, eqb-true line at q, (cc))
          step true p false q r = inr r
          step false p c q r = inr r

      hold_kept : Core txs H lines s → (h line u : ℕ) → H h line ≡ Some u
          → with_hold H w at t h line ≡ Some u
      hold_kept c h line u e = step (eqb h w) (eqb line at) refl
        where
          step : (b d : Bool) → eqb line at ≡ d → cond (b && d) (Some t) (H h line) ≡ Some u
          step true true q =
              let owned = (c.holder h line u e).owns in
              let free : k.owner s line ≡ None = ap (k.owner s) (eqb-true line at q) ∙ g.nobody in
              cc
          step true false q = e
          step false d q = e

      pub core_after_reservation : Core txs H lines s → is_some (lines at) ≡ true
          → Core txs (with_hold H w at t) lines s'
      core_after_reservation c there =
          record {
            sorted = c.sorted;
            warps = c.warps;
            line_low = c.line_low;
            there = c.there;
            passes =
                λ line i x.
                let a = c.passes line i x in
                let b = g.stamps line (c.line_low line i x) in
                omega arith;
            last = c.last;
            same_lines = c.same_lines;
            holder = λ h line u e. holder_now h line u (hold_cases h line u e);
            owner_holds = λ line h l e. owner_now line h l e (cases_eq line at);
          }
        where
          holder_now :
              (h line u : ℕ) → ((h ≡ w) × (line ≡ at) × (u ≡ t)) ⊎ (H h line ≡ Some u)
              → Holder txs lines s' h line u
          holder_now h line u (inl p) =
              record {
                warp_low = let a = p.0 in let b = g.warp_low in omega arith;
                line_low = let a = p.1 in let b = g.line_low in omega arith;
                owns = ap (k.owner s') p.1 ∙ g.mine ∙ ap Some (sym p.0);
                passes =
                    subst (λ n. u < k.write_stamp s' n) (sym p.1)
                    (let a = p.2 in let b = g.now_written in omega arith);
                there = ap (λ n. is_some (lines n)) p.1 ∙ there;
                above =
                    λ j x.
                    let a = c.passes line j x in
                    let b : k.write_stamp s line ≡ k.write_stamp s at = ap (k.write_stamp s) p.1 in
                    omega (arith, g.not_written, p.2);
              }
          holder_now h line u (inr p) =
              let old = c.holder h line u p in
              record {
                warp_low = old.warp_low;
                line_low = old.line_low;
                owns =
                    g.others line old.line_low
                    (λ e.
                    let owned = old.owns in
                    let free : k.owner s line ≡ None = ap (k.owner s) e ∙ g.nobody in
                    let z : ◌≡◌ {A = ℕ} 0 1 = cc in
                    omega arith)
                    ∙ old.owns;
                passes = let a = old.passes in let b = g.stamps line old.line_low in omega arith;
                there = old.there;
                above = old.above;
              }

          owner_now :
              (line h : ℕ) → line < line_limit → k.owner s' line ≡ Some h
              → (line ≡ at) ⊎ (line ≡ at → ⊥)
              → (u : ℕ) × (with_hold H w at t h line ≡ Some u)
          owner_now line h l e (inl p) =
              let q : k.owner s' at ≡ Some h = ap (k.owner s') (sym p) ∙ e in
              let r = g.mine in
              let same : h ≡ w = cc in (
                t,
                ap (λ b. cond (b && eqb line at) (Some t) (H h line)) (eq-eqb h w same)
                    ∙ ap (λ b. cond b (Some t) (H h line)) (eq-eqb line at p),
              )
          owner_now line h l e (inr p) =
              let old = c.owner_holds line h l (sym (g.others line l p) ∙ e) in
              (old.0, hold_kept c h line old.0 old.1)

      pub read_after_reservation :
          (place stamp warp line v : ℕ) (f : Source) → warp < 32
          → ReadNow txs H s place stamp warp line v f
          → ReadNow txs (with_hold H w at t) s' place stamp warp line v f
      read_after_reservation place stamp warp line v f low r =
          record {
            right = r.right;
            line_low = r.line_low;
            marked =
                mark_rises (k.read_mark s line) (k.read_mark s' line) (stamp, warp) r.marked
                (g.marks line r.line_low);
            held = λ h u e. step h u (hold_cases h line u e);
          }
        where
          step :
              (h u : ℕ) → ((h ≡ w) × (line ≡ at) × (u ≡ t)) ⊎ (H h line ≡ Some u)
              → key stamp warp ≤ key u h
          step h u (inl p) =
              let q : earlier (t, w) (k.read_mark s line) ≡ false =
              ap (λ n. earlier (t, w) (k.read_mark s n)) p.1 ∙ g.not_read
              in
              let b = key_rises stamp warp t w (k.read_mark s line) low r.marked q in
              omega (arith, p.0, p.2)
          step h u (inr p) = r.held h u p

  module _
      (txs : List Transaction) (H : Holding) (lines : Lines) (s s' : k.State) (w : ℕ)
      (gone : List ℕ)
      (g : Released k H s s' w gone)
    where
      pub still_held :
          (h line t : ℕ) → without_holds H w gone h line ≡ Some t
          → (h ≡ w → contains_number line gone ≡ true → ⊥) × (H h line ≡ Some t)
      still_held h line t e = step (eqb h w) refl (contains_number line gone) refl e
        where
          step :
              (b : Bool) → eqb h w ≡ b → (c : Bool) → contains_number line gone ≡ c
              → cond (b && c) None (H h line) ≡ Some t
              → (h ≡ w → contains_number line gone ≡ true → ⊥) × (H h line ≡ Some t)
          step true p true q r = let z : ◌≡◌ {A = ℕ} 0 1 = cc in absurd (omega arith)
          step true p false q r = (λ x y. both_ways (contains_number line gone) q y, r)
          step false p c q r = (λ x y. eqb-false h w p x, r)

      -- No two warps hold the same line.
      pub one_holder : Core txs H lines s → (h v line t u : ℕ) → H h line ≡ Some t
          → H v line ≡ Some u → h ≡ v
      one_holder c h v line t u p q =
          let a = (c.holder h line t p).owns in
          let b = (c.holder v line u q).owns in
          cc

      pub core_after_release : Core txs H lines s → Core txs (without_holds H w gone) lines s'
      core_after_release c =
          record {
            sorted = c.sorted;
            warps = c.warps;
            line_low = c.line_low;
            there = c.there;
            passes =
                λ line i x.
                let a = c.passes line i x in
                let b = g.stamps line (c.line_low line i x) in
                omega arith;
            last = c.last;
            same_lines = c.same_lines;
            holder = holder_now;
            owner_holds = λ line h l e. owner_now line h l e (contains_number line gone) refl;
          }
        where
          not_gone :
              (h line t : ℕ) → (h ≡ w → contains_number line gone ≡ true → ⊥) → H h line ≡ Some t
              → (b : Bool)
              → contains_number line gone ≡ b → b ≡ false
          not_gone h line t n p true q =
              let its = g.its line q in
              absurd (n (one_holder c h w line t its.0 p its.1) q)
          not_gone h line t n p false q = refl

          holder_now : (h line t : ℕ) → without_holds H w gone h line ≡ Some t
              → Holder txs lines s' h line t
          holder_now h line t e =
              let kept = still_held h line t e in
              let old = c.holder h line t kept.1 in
              record {
                warp_low = old.warp_low;
                line_low = old.line_low;
                owns =
                    g.others line old.line_low
                    (not_gone h line t kept.0 kept.1 (contains_number line gone) refl) ∙ old.owns;
                passes = let a = old.passes in let b = g.stamps line old.line_low in omega arith;
                there = old.there;
                above = old.above;
              }

          flat : (b : Bool) → (b && false) ≡ false
          flat true = refl
          flat false = refl

          owner_now :
              (line h : ℕ) → line < line_limit → k.owner s' line ≡ Some h → (b : Bool)
              → contains_number line gone ≡ b
              → (t : ℕ) × (without_holds H w gone h line ≡ Some t)
          owner_now line h l e true q =
              let r = g.released line l q in
              let z : ◌≡◌ {A = ℕ} 0 1 = cc in
              absurd (omega arith)
          owner_now line h l e false q =
              let old = c.owner_holds line h l (sym (g.others line l q) ∙ e) in (
                old.0,
                ap (λ b. cond b None (H h line)) (ap (λ b. eqb h w && b) q ∙ flat (eqb h w))
                    ∙ old.1,
              )

      pub read_after_release :
          (place stamp warp line v : ℕ) (f : Source) → ReadNow txs H s place stamp warp line v f
          → ReadNow txs (without_holds H w gone) s' place stamp warp line v f
      read_after_release place stamp warp line v f r =
          record {
            right = r.right;
            line_low = r.line_low;
            marked =
                mark_rises (k.read_mark s line) (k.read_mark s' line) (stamp, warp) r.marked
                (g.marks line r.line_low);
            held = λ h t e. r.held h t (still_held h line t e).1;
          }
