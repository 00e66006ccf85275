-- What holds between committed transactions, book and memory still holds after one more commit.
use Rattle.std.proofs.Common.{◌≡◌, ℕ, suc, ◌<◌, ◌≤◌, Bool, true, false, cond, eqb, ◌⊎◌, List, []}
use Rattle.std.proofs.Common.{◌∷◌, ◌++◌, length, is_some, Some, None, filter, Option, sym, refl, ap}
use Rattle.std.proofs.Common.{◌∙◌, subst, inl, inr, arith}
use Rattle.std.proofs.lemmas.Bool.{both_ways, cases_lt, ltb-true}
use Rattle.std.proofs.lemmas.List.{get_or_append_left, get_or_at, length_push, append-nil}
use Rattle.std.specs.Option.{option_map}
use Rattle.protocol.specs.Limits.{line_limit}
use Rattle.memory.specs.Lines.{Lines}
use Rattle.book.specs.Meaning.{Kind}
use Rattle.rules.specs.Lists.{contains_number, last_of, numbers_below}
use Rattle.rules.specs.Steps.{lines_after_stores}
use Rattle.rules.specs.Transactions.{Source, own_store, committed_store, initial_memory}
use Rattle.rules.specs.Transactions.{Transaction, no_transaction, last_own_store, is_written}
use Rattle.rules.specs.Transactions.{transaction_stores, transaction_named, writers}
use Rattle.rules.specs.Transactions.{committed_source}
use Rattle.rules.proofs.ListFacts.{filter_append, has_numbers_below, has_of_filter, last_push}
use Rattle.rules.proofs.ListFacts.{last_is_in}
use Rattle.rules.proofs.SerialAccount.{value_after_stores, written_at, source_value, writer}
use Rattle.rules.proofs.SerialOrders.{key, key_of, Earlier, commits_seen, stamp_at, key_at}
use Rattle.rules.proofs.SerialOrders.{NamesWriter, IsRightSource}
use Rattle.rules.proofs.SerialOrders.{writer_below}
use Rattle.rules.proofs.History.{Holding, Holder, Core, ReadNow}

kept_same :
    (t u : ℕ → Bool) (xs : List ℕ) → ((z : ℕ) → contains_number z xs ≡ true → t z ≡ u z)
    → filter t xs ≡ filter u xs
kept_same t u [] e = refl
kept_same t u (x ∷ xs) e =
    ap (λ b. cond b (x ∷ filter t xs) (filter t xs)) (e x (here x))
    ∙ ap (λ l. cond (u x) (x ∷ l) l) (kept_same t u xs (λ z h. e z (there z (eqb x z) h)))
  where
    here : (y : ℕ) → contains_number y (y ∷ xs) ≡ true
    here y = Rattle.std.proofs.lemmas.Bool.or_left (eqb y y) (contains_number y xs)
        (Rattle.std.proofs.lemmas.Bool.eq-eqb y y refl)

    there : (z : ℕ) (b : Bool) → contains_number z xs ≡ true
        → mathlib.Core.Bool.◌||◌ b (contains_number z xs) ≡ true
    there z true h = refl
    there z false h = h

module _ (first : Lines) (txs : List Transaction) (tx : Transaction) where
  abbrev pub with_commit : List Transaction
  with_commit = txs ++ tx ∷ []

  abbrev n : ℕ
  n = length txs

  length_more : length with_commit ≡ suc n
  length_more = let e = length_push txs tx in omega arith

  pub named_old : (j : ℕ) → j < n → transaction_named with_commit j ≡ transaction_named txs j
  named_old j l = get_or_append_left txs (tx ∷ []) no_transaction j l

  pub named_new : transaction_named with_commit n ≡ tx
  named_new = get_or_at txs tx [] no_transaction n refl

  -- A writer is one of the earlier commits or the new one.
  pub writer_cases :
      (line j : ℕ) → writer first with_commit line j ≡ true
      → ((j < n) × (writer first txs line j ≡ true))
      ⊎ ((j ≡ n) × (is_written tx.actions line ≡ true))
  writer_cases line j w = step (cases_lt j n)
    where
      low : j < suc n
      low = subst (λ z. j < z) length_more (writer_below first with_commit line j w)

      step :
          (j < n) ⊎ (n ≤ j)
          → ((j < n) × (writer first txs line j ≡ true))
          ⊎ ((j ≡ n) × (is_written tx.actions line ≡ true))
      step (inl l) =
          inl (l, ap (λ (t : Transaction). is_written t.actions line) (sym (named_old j l)) ∙ w)
      step (inr g) =
          let e : j ≡ n = omega (arith, low) in
          inr (
            e,
            ap (λ (t : Transaction). is_written t.actions line) (sym named_new)
                ∙ ap (λ i. writer first with_commit line i) (sym e) ∙ w,
          )

  pub writer_old : (line j : ℕ) → writer first txs line j ≡ true
      → writer first with_commit line j ≡ true
  writer_old line j w =
      ap (λ (t : Transaction). is_written t.actions line)
      (named_old j (writer_below first txs line j w)) ∙ w

  stamp_old : (j : ℕ) → j < n → stamp_at first with_commit j ≡ stamp_at first txs j
  stamp_old j l = ap (λ (t : Transaction). t.stamp) (named_old j l)

  writers_more : (line : ℕ)
      → writers with_commit line ≡ writers txs line ++ cond (is_written tx.actions line) (n ∷ []) []
  writers_more line =
      ap (λ z. filter (writer first with_commit line) (numbers_below z)) length_more
      ∙ filter_append (writer first with_commit line) (numbers_below n) (n ∷ [])
      ∙ ap (λ l. l ++ filter (writer first with_commit line) (n ∷ [])) old
      ∙ ap (λ b. writers txs line ++ cond b (n ∷ []) [])
      (ap (λ (t : Transaction). is_written t.actions line) named_new)
    where
      old : filter (writer first with_commit line) (numbers_below n) ≡ writers txs line
      old =
          kept_same (writer first with_commit line) (writer first txs line) (numbers_below n)
          (λ z h.
          ap (λ (t : Transaction). is_written t.actions line)
          (named_old z (ltb-true z n (sym (has_numbers_below z n) ∙ h))))

  -- The value of a source does not change.
  found_old :
      (line : ℕ) (f : Source) → NamesWriter first txs f line
      → source_value first with_commit line f ≡ source_value first txs line f
  found_old line own_store bad = absurd bad
  found_old line (committed_store j) w =
      ap (λ (t : Transaction). last_own_store t.actions line)
      (named_old j (writer_below first txs line j w))
  found_old line initial_memory u = refl

  pub last_source_names_writer : (line : ℕ)
      → NamesWriter first txs (committed_source (last_of (writers txs line))) line
  last_source_names_writer line = step (last_of (writers txs line)) refl
    where
      step : (o : Option ℕ) → last_of (writers txs line) ≡ o
          → NamesWriter first txs (committed_source o) line
      step None e = tt
      step (Some j) e =
          (has_of_filter (writer first txs line) j (numbers_below n)
          (last_is_in (writers txs line) j e)).1

  commits_seen_low : (line : ℕ) (f : Source) → NamesWriter first txs f line → commits_seen f ≤ n
  commits_seen_low line own_store bad = absurd bad
  commits_seen_low line (committed_store j) w = writer_below first txs line j w
  commits_seen_low line initial_memory u = omega arith

  -- A load that found the right store still has, if the new writer is later than it in logical
  -- time.
  pub right_source_with_commit :
      (place place' stamp warp line v : ℕ) (f : Source)
      → IsRightSource first txs place stamp warp line v f
      → (place' ≡ place) ⊎ ((place ≡ n) × (place' ≡ suc n))
      → (is_written tx.actions line ≡ true → (n ≡ place' → ⊥)
      → Earlier (key stamp warp) place' (key_of tx) n)
      → IsRightSource first with_commit place' stamp warp line v f
  right_source_with_commit place place' stamp warp line v f r moved newer =
      record {
        names = names_now f r.names;
        value = found_old line f r.names ∙ r.value;
        before = λ j w l. before_now j l (writer_cases line j w);
        after = λ j w l d. after_now j l d (writer_cases line j w);
      }
    where
      names_now : (g : Source) → NamesWriter first txs g line → NamesWriter first with_commit g line
      names_now own_store bad = bad
      names_now (committed_store j) w = writer_old line j w
      names_now initial_memory u = u

      before_now :
          (j : ℕ) → j < commits_seen f
          → ((j < n) × (writer first txs line j ≡ true))
          ⊎ ((j ≡ n) × (is_written tx.actions line ≡ true))
          → stamp_at first with_commit j < stamp
      before_now j l (inl p) = let a = r.before j p.1 l in let b = stamp_old j p.0 in omega arith
      before_now j l (inr p) = let a = commits_seen_low line f r.names in let e =
          p.0 in absurd (omega arith)

      after_now :
          (j : ℕ) → commits_seen f ≤ j → (j ≡ place' → ⊥)
          → ((j < n) × (writer first txs line j ≡ true))
          ⊎ ((j ≡ n) × (is_written tx.actions line ≡ true))
          → Earlier (key stamp warp) place' (key_at first with_commit j) j
      after_now j l d (inl p) =
          let old = r.after j p.1 l (apart moved) in
          let e : key_at first with_commit j ≡ key_at first txs j = ap key_of (named_old j p.0) in
          let m = moved in
          let low = p.0 in
          (omega (arith, old.0), λ c. later m (old.1 (omega arith)))
        where
          apart : (place' ≡ place) ⊎ ((place ≡ n) × (place' ≡ suc n)) → j ≡ place → ⊥
          apart (inl q) e = d (e ∙ sym q)
          apart (inr q) e = let a = q.0 in let b = p.0 in omega arith

          later : (place' ≡ place) ⊎ ((place ≡ n) × (place' ≡ suc n)) → place < j → place' < j
          later (inl q) c = omega arith
          later (inr q) c = let a = q.0 in let b = p.0 in absurd (omega arith)
      after_now j l d (inr p) =
          let e : key_at first with_commit j ≡ key_of tx = ap (key_at first with_commit) p.0
          ∙ ap key_of named_new in
          let new = newer p.1 (λ q. d (p.0 ∙ q)) in
          let same = p.0 in
          (omega (arith, new.0), λ c. let z = new.1 (omega arith) in omega arith)

module _
    (k : Kind) (first : Lines) (txs : List Transaction) (H : Holding) (lines : Lines) (s : k.State)
    (tx : Transaction)
  where
    -- What holds of a line that a transaction is about to commit a store to. The line is released
    -- already.
    pub record ReadyToCommit (line : ℕ) : Type 0 where
      pub line_low : line < line_limit
      pub there : is_some (lines line) ≡ true
      pub passes : tx.stamp < k.write_stamp s line
      pub above : (j : ℕ) → writer first txs line j ≡ true → stamp_at first txs j < tx.stamp
      pub nobody : (h t : ℕ) → H h line ≡ Some t → ⊥

    pub core_with_commit :
        Core k first txs H lines s → tx.warp < 32
        → ((line : ℕ) → is_written tx.actions line ≡ true → ReadyToCommit line)
        → Core k first (with_commit first txs tx) H
        (lines_after_stores lines (transaction_stores tx.actions)) s
    core_with_commit c low ready =
        record {
          sorted =
              λ line i j l wi wj.
              sorted_now line i j l (writer_cases first txs tx line i wi)
              (writer_cases first txs tx line j wj);
          warps = warps_now;
          line_low = λ line i w. low_now line i (writer_cases first txs tx line i w);
          there = λ line i w. there_now line i (writer_cases first txs tx line i w);
          passes = λ line i w. passes_now line i (writer_cases first txs tx line i w);
          last = λ line. last_now line (last_own_store tx.actions line) refl;
          same_lines = λ line. still_there line ∙ c.same_lines line;
          holder = holder_now;
          owner_holds = c.owner_holds;
        }
      where
        New : ℕ → ℕ → Type 0
        New line j =
            ((j < length txs) × (writer first txs line j ≡ true))
            ⊎ ((j ≡ length txs) × (is_written tx.actions line ≡ true))

        stamp_new : (j : ℕ) → j ≡ length txs
            → stamp_at first (with_commit first txs tx) j ≡ tx.stamp
        stamp_new j e =
            ap (stamp_at first (with_commit first txs tx)) e
            ∙ ap (λ (t : Transaction). t.stamp) (named_new first txs tx)

        sorted_now :
            (line i j : ℕ) → i < j → New line i → New line j
            → stamp_at first (with_commit first txs tx) i < stamp_at first
            (with_commit first txs tx) j
        sorted_now line i j l (inl p) (inl q) =
            let a = c.sorted line i j l p.1 q.1 in
            let b = stamp_old first txs tx i p.0 in
            let d = stamp_old first txs tx j q.0 in
            omega arith
        sorted_now line i j l (inl p) (inr q) =
            let a = (ready line q.1).above i p.1 in
            let b = stamp_old first txs tx i p.0 in
            let d = stamp_new j q.0 in
            omega arith
        sorted_now line i j l (inr p) (inl q) = let a = p.0 in let b = q.0 in absurd (omega arith)
        sorted_now line i j l (inr p) (inr q) = let a = p.0 in let b = q.0 in absurd (omega arith)

        warps_now : (i : ℕ) → i < length (with_commit first txs tx)
            → (transaction_named (with_commit first txs tx) i).warp < 32
        warps_now i l = step (cases_lt i (length txs))
          where
            step : (i < length txs) ⊎ (length txs ≤ i)
                → (transaction_named (with_commit first txs tx) i).warp < 32
            step (inl p) =
                subst (λ (t : Transaction). t.warp < 32) (sym (named_old first txs tx i p))
                (c.warps i p)
            step (inr p) =
                let e : i ≡ length txs = omega (arith, length_more first txs tx) in
                subst (λ (t : Transaction). t.warp < 32)
                (sym (ap (transaction_named (with_commit first txs tx)) e ∙ named_new first txs tx))
                low

        low_now : (line i : ℕ) → New line i → line < line_limit
        low_now line i (inl p) = c.line_low line i p.1
        low_now line i (inr p) = (ready line p.1).line_low

        there_now : (line i : ℕ) → New line i → is_some (first line) ≡ true
        there_now line i (inl p) = c.there line i p.1
        there_now line i (inr p) = sym (c.same_lines line) ∙ (ready line p.1).there

        passes_now : (line i : ℕ) → New line i
            → stamp_at first (with_commit first txs tx) i < k.write_stamp s line
        passes_now line i (inl p) =
            let a = c.passes line i p.1 in let b = stamp_old first txs tx i p.0 in omega arith
        passes_now line i (inr p) =
            let a = (ready line p.1).passes in let b = stamp_new i p.0 in omega arith

        still : (o p : Option ℕ) → is_some (value_after_stores o p) ≡ is_some p
        still None p = refl
        still (Some v) None = refl
        still (Some v) (Some u) = refl

        still_there : (line : ℕ)
            → is_some (lines_after_stores lines (transaction_stores tx.actions) line) ≡ is_some
            (lines line)
        still_there line =
            ap is_some (written_at lines tx.actions line)
            ∙ still (last_own_store tx.actions line) (lines line)

        put_over : (v : ℕ) (p : Option ℕ) → is_some p ≡ true → option_map (λ _. v) p ≡ Some v
        put_over v None h = absurd (both_ways false refl h)
        put_over v (Some u) h = refl

        last_now :
            (line : ℕ) (o : Option ℕ) → last_own_store tx.actions line ≡ o
            → lines_after_stores lines (transaction_stores tx.actions) line
            ≡ source_value first (with_commit first txs tx) line
            (committed_source (last_of (writers (with_commit first txs tx) line)))
        last_now line None e =
            written_at lines tx.actions line ∙ ap (λ p. value_after_stores p (lines line)) e
            ∙ c.last line
            ∙ sym (found_old first txs tx line (committed_source (last_of (writers txs line)))
            (last_source_names_writer first txs tx line))
            ∙ ap (λ ws. source_value first (with_commit first txs tx) line
            (committed_source (last_of ws)))
            (sym
            (writers_more first txs tx line
            ∙ ap (λ p. writers txs line ++ cond (is_some p) (length txs ∷ []) []) e
            ∙ append-nil (writers txs line)))
        last_now line (Some v) e =
            written_at lines tx.actions line ∙ ap (λ p. value_after_stores p (lines line)) e
            ∙ put_over v (lines line) (ready line (ap is_some e)).there
            ∙ sym e
            ∙ ap (λ (t : Transaction). last_own_store t.actions line) (sym (named_new first txs tx))
            ∙ ap (λ o. source_value first (with_commit first txs tx) line (committed_source o))
            (sym
            (ap last_of
            (writers_more first txs tx line
            ∙ ap (λ p. writers txs line ++ cond (is_some p) (length txs ∷ []) []) e)
            ∙ last_push (writers txs line) (length txs)))

        holder_now :
            (h line t : ℕ) → H h line ≡ Some t
            → Holder k first (with_commit first txs tx)
            (lines_after_stores lines (transaction_stores tx.actions)) s h line t
        holder_now h line t e =
            let old = c.holder h line t e in
            record {
              warp_low = old.warp_low;
              line_low = old.line_low;
              owns = old.owns;
              passes = old.passes;
              there = still_there line ∙ old.there;
              above = λ j w. above_now j (writer_cases first txs tx line j w);
            }
          where
            above_now : (j : ℕ) → New line j → stamp_at first (with_commit first txs tx) j < t
            above_now j (inl p) =
                let a = (c.holder h line t e).above j p.1 in let b = stamp_old first txs tx j p.0
                in omega arith
            above_now j (inr p) = absurd ((ready line p.1).nobody h t e)

    -- What holds of a load still holds after the commit.
    pub read_with_commit :
        (place place' stamp warp line v : ℕ) (f : Source)
        → ReadNow k first txs H s place stamp warp line v f
        → (place' ≡ place) ⊎ ((place ≡ length txs) × (place' ≡ suc (length txs)))
        → (is_written tx.actions line ≡ true → (length txs ≡ place' → ⊥)
        → Earlier (key stamp warp) place' (key_of tx) (length txs))
        → ReadNow k first (with_commit first txs tx) H s place' stamp warp line v f
    read_with_commit place place' stamp warp line v f r moved newer =
        record {
          right = right_source_with_commit first txs tx place place' stamp warp line v f r.right
              moved newer;
          line_low = r.line_low;
          marked = r.marked;
          held = r.held;
        }
