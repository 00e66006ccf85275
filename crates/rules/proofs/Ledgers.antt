-- What holds of a ledger, the memory and the book, and how it is kept by each change of the ledger:
-- a begin, a load or a store that joins, an end, and a commit.
use Rattle.std.proofs.Common.{◌≡◌, ℕ, suc, ◌<◌, ◌≤◌, Bool, true, false, cond, ◌&&◌, eqb, ◌⊎◌, List}
use Rattle.std.proofs.Common.{[], ◌∷◌, ◌++◌, length, is_some, Some, None, Option, sym, refl, ap}
use Rattle.std.proofs.Common.{◌∙◌, subst, inl, inr, arith}
use mathlib.Core.Path.{fun_ext}
use Rattle.std.proofs.lemmas.Bool.{lt-ltb, eqb-true, eqb-false, cases_lt, cases_order}
use Rattle.std.proofs.lemmas.List.{length_push}
use Rattle.std.specs.Option.{option_map, option_to_list}
use Rattle.protocol.specs.Limits.{line_limit}
use Rattle.memory.specs.Lines.{Lines}
use Rattle.book.specs.Meaning.{Kind}
use Rattle.book.specs.Time.{earlier}
use Rattle.rules.specs.Lists.{contains_number, last_of, numbers_below}
use Rattle.rules.specs.Logs.{log_entry}
use Rattle.rules.specs.Steps.{lines_after_stores}
use Rattle.rules.specs.Transactions.{Source, Action, loaded, stored, load_action, Transaction}
use Rattle.rules.specs.Transactions.{last_own_store, is_written}
use Rattle.rules.specs.Transactions.{transaction_stores, transaction_named}
use Rattle.rules.specs.Transactions.{writers, committed_source}
use Rattle.rules.specs.Ledger.{Ledger, own_or_other_source, load_source, with_action, with_current}
use Rattle.rules.specs.Ledger.{with_load, with_store, with_begun}
use Rattle.rules.specs.Ledger.{without_current, with_committed}
use Rattle.rules.proofs.ListFacts.{eqb_sym, filter_has, has_numbers_below}
use Rattle.rules.proofs.ListFacts.{filtered_numbers_below_rise, last_some}
use Rattle.rules.proofs.ListFacts.{last_is_greatest}
use Rattle.rules.proofs.SerialAccount.{AtLoad, each_weaker, writer}
use Rattle.rules.proofs.SerialOrders.{key, key_of, Earlier, commits_seen, writer_below}
use Rattle.rules.proofs.History.{Holding, Core, ReadNow, Reads, Grown, Reserved, Released}
use Rattle.rules.proofs.History.{with_hold}
use Rattle.rules.proofs.History.{without_holds}
use Rattle.rules.proofs.History.{core_grown, read_grown, core_after_reservation}
use Rattle.rules.proofs.History.{read_after_reservation, core_after_release}
use Rattle.rules.proofs.History.{read_after_release, still_held}
use Rattle.rules.proofs.History.{one_holder}
use Rattle.rules.proofs.Commits.{ReadyToCommit, core_with_commit, read_with_commit, named_old}
use Rattle.rules.proofs.Commits.{named_new, last_source_names_writer}

-- What a transaction holds: the lines that it stored to, at its stamp.
abbrev pub hold_in : Option Transaction → ℕ → Option ℕ
hold_in None line = None
hold_in (Some tx) line = cond (is_written tx.actions line) (Some tx.stamp) None

abbrev pub hold : Ledger → Holding
hold l h line = hold_in (l.current h) line

pub hold_writes :
    (tx : Transaction) (line : ℕ) → is_written tx.actions line ≡ true
    → hold_in (Some tx) line ≡ Some tx.stamp
hold_writes tx line w = ap (λ b. cond b (Some tx.stamp) None) w

-- After one warp's transaction is replaced, every current transaction is the new one or was current
-- before.
pub current_cases :
    (l : Ledger) (w : ℕ) (o : Option Transaction) (h : ℕ) (tx : Transaction)
    → (with_current l w o).current h ≡ Some tx
    → ((h ≡ w) × (o ≡ Some tx)) ⊎ ((h ≡ w → ⊥) × (l.current h ≡ Some tx))
current_cases l w o h tx e = step (eqb h w) refl e
  where
    step :
        (b : Bool) → eqb h w ≡ b → cond b o (l.current h) ≡ Some tx
        → ((h ≡ w) × (o ≡ Some tx)) ⊎ ((h ≡ w → ⊥) × (l.current h ≡ Some tx))
    step true p q = inl (eqb-true h w p, q)
    step false p q = inr (eqb-false h w p, q)

keys_apart : (a h b w : ℕ) → h < 32 → w < 32 → (h ≡ w → ⊥) → key a h ≤ key b w → key a h < key b w
keys_apart a h b w hl wl n e = step (cases_order a b)
  where
    step : (a ≡ b) ⊎ ((a < b) ⊎ (b < a)) → key a h < key b w
    step (inl p) = omega arith
    step (inr (inl p)) = omega arith
    step (inr (inr p)) = absurd (omega arith)

module _ (k : Kind) (first : Lines) where
  -- All that holds of the ledger, the memory and the book in a run.
  pub record History (l : Ledger) (lines : Lines) (s : k.State) : Type 0 where
    pub core : Core k first l.committed (hold l) lines s
    pub past :
        (i : ℕ) → i < length l.committed
        → Reads k first l.committed (hold l) s i (transaction_named l.committed i)
    pub now :
        (h : ℕ) (tx : Transaction) → l.current h ≡ Some tx
        → Reads k first l.committed (hold l) s (length l.committed) tx
    pub here : (h : ℕ) (tx : Transaction) → l.current h ≡ Some tx → (tx.warp ≡ h) × (h < 32)

  -- One warp's transaction is replaced.
  module _ (l : Ledger) (w : ℕ) (o : Option Transaction) (H' : Holding) (lines : Lines)
      (s' : k.State) where
    changed :
        hold (with_current l w o) ≡ H' → Core k first l.committed H' lines s'
        → ((i : ℕ) → i < length l.committed
        → Reads k first l.committed H' s' i (transaction_named l.committed i))
        → ((h : ℕ) (tx : Transaction) → (h ≡ w → ⊥) → l.current h ≡ Some tx
        → Reads k first l.committed H' s' (length l.committed) tx)
        → ((tx : Transaction) → o ≡ Some tx
        → Reads k first l.committed H' s' (length l.committed) tx × ((tx.warp ≡ w) × (w < 32)))
        → ((h : ℕ) (tx : Transaction) → l.current h ≡ Some tx → (tx.warp ≡ h) × (h < 32))
        → History (with_current l w o) lines s'
    changed e core past others mine here =
        record {
          core = subst (λ H. Core k first l.committed H lines s') (sym e) core;
          past =
              λ i low.
              subst (λ H. Reads k first l.committed H s' i (transaction_named l.committed i))
              (sym e) (past i low);
          now =
              λ h tx p.
              subst (λ H. Reads k first l.committed H s' (length l.committed) tx) (sym e)
              (now_there h tx (current_cases l w o h tx p));
          here = λ h tx p. here_there h tx (current_cases l w o h tx p);
        }
      where
        now_there :
            (h : ℕ) (tx : Transaction)
            → ((h ≡ w) × (o ≡ Some tx)) ⊎ ((h ≡ w → ⊥) × (l.current h ≡ Some tx))
            → Reads k first l.committed H' s' (length l.committed) tx
        now_there h tx (inl p) = (mine tx p.1).0
        now_there h tx (inr p) = others h tx p.0 p.1

        here_there :
            (h : ℕ) (tx : Transaction)
            → ((h ≡ w) × (o ≡ Some tx)) ⊎ ((h ≡ w → ⊥) × (l.current h ≡ Some tx))
            → (tx.warp ≡ h) × (h < 32)
        here_there h tx (inl p) =
            let m = (mine tx p.1).1 in let e = p.0 in (m.0 ∙ sym e, omega arith)
        here_there h tx (inr p) = here h tx p.1

  module _ (l : Ledger) (lines : Lines) (s : k.State) (H : History l lines s) (w : ℕ) where
    -- A transaction begins.
    pub begun : l.current w ≡ None → w < 32 → (stamp : ℕ) → History (with_begun l w stamp) lines s
    begun none low stamp =
        changed l w (Some (record { stamp = stamp; warp = w; actions = [] }))
        (hold l) lines s holds H.core
        H.past (λ h tx n e. H.now h tx e)
        (λ tx e. (fresh tx e, (fresh_warp tx e, low))) H.here
      where
        fresh :
            (tx : Transaction) → Some (record { stamp = stamp; warp = w; actions = [] }) ≡ Some tx
            → Reads k first l.committed (hold l) s (length l.committed) tx
        fresh tx e =
            let p : record { stamp = stamp; warp = w; actions = [] } ≡ tx = cc in
            subst (Reads k first l.committed (hold l) s (length l.committed)) p tt

        fresh_warp : (tx : Transaction)
            → Some (record { stamp = stamp; warp = w; actions = [] }) ≡ Some tx → tx.warp ≡ w
        fresh_warp tx e =
            let p : record { stamp = stamp; warp = w; actions = [] } ≡ tx = cc in
            ap (λ (t : Transaction). t.warp) (sym p)

        holds : hold (with_begun l w stamp) ≡ hold l
        holds = fun_ext (λ h. fun_ext (λ line. step h line (eqb h w) refl))
          where
            step :
                (h line : ℕ) (b : Bool) → eqb h w ≡ b
                → hold_in (cond b (Some (record { stamp = stamp; warp = w; actions = [] }))
                (l.current h)) line
                ≡ hold_in (l.current h) line
            step h line true p =
                sym (ap (λ o. hold_in o line) (ap l.current (eqb-true h w p) ∙ none))
            step h line false p = refl

    -- A warp releases some lines, and its transaction is replaced by one that holds the remaining
    -- lines, or by none.
    module _ (gone : List ℕ) (s' : k.State) (g : Released k (hold l) s s' w gone) where
      abbrev left : ℕ → Transaction → Type 0
      left place tx = Reads k first l.committed (without_holds (hold l) w gone) s' place tx

      pub lines_released :
          (o : Option Transaction) → hold (with_current l w o) ≡ without_holds (hold l) w gone
          → ((tx : Transaction) → o ≡ Some tx
          → left (length l.committed) tx × ((tx.warp ≡ w) × (w < 32)))
          → History (with_current l w o) lines s'
      lines_released o holds its =
          changed l w o (without_holds (hold l) w gone) lines s' holds
          (core_after_release k first l.committed (hold l) lines s s' w gone g H.core)
          (λ i low. weaken i (transaction_named l.committed i) (H.past i low))
          (λ h tx n e. weaken (length l.committed) tx (H.now h tx e))
          its H.here
        where
          weaken : (place : ℕ) (tx : Transaction) → Reads k first l.committed (hold l) s place tx
              → left place tx
          weaken place tx r =
              each_weaker (ReadNow k first l.committed (hold l) s place tx.stamp tx.warp)
              (ReadNow k first l.committed
              (without_holds (hold l) w gone) s' place tx.stamp tx.warp)
              (read_after_release k first l.committed
              (hold l) lines s s' w gone g place tx.stamp tx.warp) tx.actions r

      -- A warp releases all its lines.
      pub all_lines_released :
          ((line t : ℕ) → hold l w line ≡ Some t → contains_number line gone ≡ true)
          → hold (without_current l w) ≡ without_holds (hold l) w gone
      all_lines_released all = fun_ext (λ h. fun_ext (λ line. step h line (eqb h w) refl))
        where
          all_gone : (line : ℕ) (o : Option ℕ) → hold l w line ≡ o
              → cond (contains_number line gone) None o ≡ None
          all_gone line None e = same (contains_number line gone)
            where
              same : (b : Bool) → ◌≡◌ {A = Option ℕ} (cond b None None) None
              same true = refl
              same false = refl
          all_gone line (Some t) e = ap (λ b. cond b None (Some t)) (all line t e)

          step :
              (h line : ℕ) (b : Bool) → eqb h w ≡ b
              → hold_in (cond b None (l.current h)) line
              ≡ cond (b && contains_number line gone) None (hold_in (l.current h) line)
          step h line true p =
              sym
              (ap (λ v. cond (contains_number line gone) None (hold l v line)) (eqb-true h w p)
              ∙ all_gone line (hold l w line) refl)
          step h line false p = refl

      -- A transaction ends without a commit.
      pub ended :
          ((line t : ℕ) → hold l w line ≡ Some t → contains_number line gone ≡ true)
          → History (without_current l w) lines s'
      ended all =
          lines_released None (all_lines_released all)
          (λ tx e. let z : ◌≡◌ {A = ℕ} 0 1 = cc in absurd (omega arith))

    module _ (tx : Transaction) (mine : l.current w ≡ Some tx) where
      -- A transaction with one more load or store, after the book has changed.
      joined :
          (s' : k.State) (g : Grown k s s') (d : Action)
          → ((line : ℕ) → is_written (d ∷ tx.actions) line ≡ is_written tx.actions line)
          → (Reads k first l.committed (hold l) s' (length l.committed) tx
          → Reads k first l.committed (hold l) s' (length l.committed) (with_action tx d))
          → History (with_current l w (Some (with_action tx d))) lines s'
      joined s' g d same more_reads =
          changed l w (Some (with_action tx d)) (hold l) lines s' holds
          (core_grown k first l.committed (hold l) lines s s' g H.core)
          (λ i low. weaken i (transaction_named l.committed i) (H.past i low))
          (λ h t n e. weaken (length l.committed) t (H.now h t e))
          (λ t e.
          let p : with_action tx d ≡ t = cc in
          let q = H.here w tx mine in (
            subst (Reads k first l.committed (hold l) s' (length l.committed)) p
                (more_reads (weaken (length l.committed) tx (H.now w tx mine))),
            (ap (λ (u : Transaction). u.warp) (sym p) ∙ q.0, q.1),
          ))
          H.here
        where
          weaken :
              (place : ℕ) (t : Transaction) → Reads k first l.committed (hold l) s place t
              → Reads k first l.committed (hold l) s' place t
          weaken place t r =
              each_weaker (ReadNow k first l.committed (hold l) s place t.stamp t.warp)
              (ReadNow k first l.committed (hold l) s' place t.stamp t.warp)
              (read_grown k first l.committed (hold l) lines s s' g place t.stamp t.warp) t.actions
              r

          holds : hold (with_current l w (Some (with_action tx d))) ≡ hold l
          holds = fun_ext (λ h. fun_ext (λ line. step h line (eqb h w) refl))
            where
              step :
                  (h line : ℕ) (b : Bool) → eqb h w ≡ b
                  → hold_in (cond b (Some (with_action tx d)) (l.current h)) line ≡ hold_in
                  (l.current h) line
              step h line true p =
                  ap (λ b. cond b (Some tx.stamp) None) (same line)
                  ∙ sym (ap (λ o. hold_in o line) (ap l.current (eqb-true h w p) ∙ mine))
              step h line false p = refl

      as_joined :
          (d : Transaction → Action)
          → with_current l w (Some (with_action tx (d tx)))
          ≡ with_current l w (option_map (λ t. with_action t (d t)) (l.current w))
      as_joined d = ap (λ o. with_current l w (option_map (λ t. with_action t (d t)) o)) (sym mine)

      -- A load that finds an own store.
      pub load_own :
          (s' : k.State) → Grown k s s' → (line v : ℕ) → last_own_store tx.actions line ≡ Some v
          → History (with_load l w line v) lines s'
      load_own s' g line v e =
          subst (λ l'. History l' lines s')
          (as_joined (λ t. loaded (load_action line v (load_source l.committed t line))))
          (joined s' g (loaded (load_action line v (load_source l.committed tx line))) (λ n. refl)
          (λ r. (
            subst
                (λ o.
                AtLoad
                (ReadNow k first l.committed (hold l) s' (length l.committed) tx.stamp tx.warp)
                line v (own_or_other_source o
                (committed_source (last_of (writers l.committed line)))) o)
                (sym e) (refl, refl),
            r,
          )))

      -- A load of a line that the transaction has not stored to.
      pub load_other :
          (s' : k.State) → Grown k s s' → (line v : ℕ) → last_own_store tx.actions line ≡ None
          → lines line ≡ Some v → line < line_limit → k.owner s line ≡ None
          → k.write_stamp s line ≤ tx.stamp
          → earlier (k.read_mark s' line) (tx.stamp, tx.warp) ≡ false
          → History (with_load l w line v) lines s'
      load_other s' g line v e value low nobody unwritten reached =
          subst (λ l'. History l' lines s')
          (as_joined (λ t. loaded (load_action line v (load_source l.committed t line))))
          (joined s' g (loaded (load_action line v (load_source l.committed tx line))) (λ n. refl)
          (λ r. (
            subst
                (λ o.
                AtLoad
                (ReadNow k first l.committed (hold l) s' (length l.committed) tx.stamp tx.warp)
                line v (own_or_other_source o
                (committed_source (last_of (writers l.committed line)))) o)
                (sym e) reading,
            r,
          )))
        where
          late :
              (j : ℕ) → writer first l.committed line j ≡ true
              → commits_seen (committed_source (last_of (writers l.committed line))) ≤ j → ⊥
          late j wj above =
              let inside : contains_number j (writers l.committed line) ≡ true =
              filter_has (writer first l.committed line) j (numbers_below (length l.committed))
              (has_numbers_below j (length l.committed)
              ∙ lt-ltb j (length l.committed) (writer_below first l.committed line j wj))
              wj
              in
              let z = last_some (writers l.committed line) j inside in
              let top =
              last_is_greatest (writers l.committed line) z.0 j
              (filtered_numbers_below_rise (writer first l.committed line) (length l.committed)) z.1
              inside
              in
              let q : commits_seen (committed_source (last_of (writers l.committed line)))
              ≡ suc z.0 =
              ap (λ o. commits_seen (committed_source o)) z.1
              in
              omega arith

          reading :
              ReadNow k first l.committed (hold l) s' (length l.committed) tx.stamp tx.warp line v
              (committed_source (last_of (writers l.committed line)))
          reading =
              record {
                right =
                    record {
                      names = last_source_names_writer first l.committed tx line;
                      value = sym (H.core.last line) ∙ value;
                      before = λ j wj b. let a = H.core.passes line j wj in omega arith;
                      after = λ j wj b d. absurd (late j wj b);
                    };
                line_low = low;
                marked = reached;
                held =
                    λ h t p.
                    let a = (H.core.holder h line t p).owns in
                    let z : ◌≡◌ {A = ℕ} 0 1 = cc in
                    absurd (omega arith);
              }

      -- A store to a line that the transaction holds already.
      pub store_own :
          (s' : k.State) → Grown k s s' → (line v u : ℕ) → last_own_store tx.actions line ≡ Some u
          → History (with_store l w line v) lines s'
      store_own s' g line v u e =
          subst (λ l'. History l' lines s') (as_joined (λ t. stored (log_entry line v)))
          (joined s' g (stored (log_entry line v)) (λ n. step n (eqb line n) refl) (λ r. r))
        where
          step :
              (n : ℕ) (b : Bool) → eqb line n ≡ b
              → is_some (cond b (Some v) (last_own_store tx.actions n)) ≡ is_some
              (last_own_store tx.actions n)
          step n true p =
              sym (ap is_some (ap (last_own_store tx.actions) (sym (eqb-true line n p)) ∙ e))
          step n false p = refl

      -- A store to a line that the transaction reserves with it.
      pub store_new :
          (s' : k.State) (line v : ℕ) → Reserved k s s' w line tx.stamp
          → is_some (lines line) ≡ true
          → History (with_store l w line v) lines s'
      store_new s' line v g there =
          subst (λ l'. History l' lines s') (as_joined (λ t. stored (log_entry line v)))
          (changed l w (Some (with_action tx (stored (log_entry line v))))
          (with_hold (hold l) w line tx.stamp) lines s' holds
          (core_after_reservation k first l.committed
          (hold l) lines s s' w line tx.stamp g H.core there)
          (λ i low.
          weaken i (transaction_named l.committed i) (H.core.warps i low) (H.past i low))
          (λ h t n e. weaken (length l.committed) t (warp_low h t e) (H.now h t e))
          (λ t e.
          let p : with_action tx (stored (log_entry line v)) ≡ t = cc in
          let q = H.here w tx mine in (
            subst (Reads k first l.committed (with_hold (hold l) w line tx.stamp) s'
                (length l.committed)) p
                (weaken (length l.committed) tx (warp_low w tx mine) (H.now w tx mine)),
            (ap (λ (u : Transaction). u.warp) (sym p) ∙ q.0, q.1),
          ))
          H.here)
        where
          warp_low : (h : ℕ) (t : Transaction) → l.current h ≡ Some t → t.warp < 32
          warp_low h t e = let q = H.here h t e in let a = q.0 in let b = q.1 in omega arith

          weaken :
              (place : ℕ) (t : Transaction) → t.warp < 32
              → Reads k first l.committed (hold l) s place t
              → Reads k first l.committed (with_hold (hold l) w line tx.stamp) s' place t
          weaken place t low r =
              each_weaker (ReadNow k first l.committed (hold l) s place t.stamp t.warp)
              (ReadNow k first l.committed (with_hold (hold l) w line tx.stamp) s' place t.stamp
              t.warp)
              (λ n u f.
              read_after_reservation k first l.committed
              (hold l) lines s s' w line tx.stamp g place t.stamp t.warp
              n u f low)
              t.actions r

          holds : hold (with_current l w (Some (with_action tx (stored (log_entry line v)))))
              ≡ with_hold (hold l) w line tx.stamp
          holds = fun_ext (λ h. fun_ext (λ n. step h n (eqb h w) refl))
            where
              on_line :
                  (n : ℕ) (b : Bool)
                  → cond (is_some (cond b (Some v) (last_own_store tx.actions n)))
                  (Some tx.stamp) None
                  ≡ cond b (Some tx.stamp) (hold_in (Some tx) n)
              on_line n true = refl
              on_line n false = refl

              step :
                  (h n : ℕ) (b : Bool) → eqb h w ≡ b
                  → hold_in (cond b (Some (with_action tx (stored (log_entry line v))))
                  (l.current h)) n
                  ≡ cond (b && eqb n line) (Some tx.stamp) (hold_in (l.current h) n)
              step h n true p =
                  on_line n (eqb line n)
                  ∙ ap (λ b. cond b (Some tx.stamp) (hold_in (Some tx) n)) (eqb_sym line n)
                  ∙ ap (λ o. cond (eqb n line) (Some tx.stamp) (hold_in o n))
                  (sym (ap l.current (eqb-true h w p) ∙ mine))
              step h n false p = refl

      -- A transaction commits: it releases its lines, and its stores are in memory.
      pub committed :
          (gone : List ℕ) (s' : k.State) → Released k (hold l) s s' w gone
          → ((line t : ℕ) → hold l w line ≡ Some t → contains_number line gone ≡ true)
          → History (with_committed l w) (lines_after_stores lines (transaction_stores tx.actions))
          s'
      committed gone s' g all =
          subst
          (λ o.
          History (record {
            current = (without_current l w).current;
            committed = l.committed
                ++ option_to_list o;
          })
          (lines_after_stores lines (transaction_stores tx.actions)) s')
          (sym mine) closed
        where
          held_at : (line : ℕ) → is_written tx.actions line ≡ true → hold l w line ≡ Some tx.stamp
          held_at line x = ap (λ o. hold_in o line) mine ∙ hold_writes tx line x

          warp_is : tx.warp ≡ w
          warp_is = (H.here w tx mine).0

          warp_low : tx.warp < 32
          warp_low = let q = H.here w tx mine in let a = q.0 in let b = q.1 in omega arith

          ready :
              (line : ℕ) → is_written tx.actions line ≡ true
              → ReadyToCommit k first l.committed (without_holds (hold l) w gone) lines s' tx line
          ready line x =
              let old = H.core.holder w line tx.stamp (held_at line x) in
              record {
                line_low = old.line_low;
                there = old.there;
                passes = let a = old.passes in let b = g.stamps line old.line_low in omega arith;
                above = old.above;
                nobody =
                    λ h t e.
                    let p = still_held k first l.committed
                    (hold l) lines s s' w gone g h line t e in
                    p.0
                    (one_holder k first l.committed
                    (hold l) lines s s' w gone g H.core h w line t tx.stamp p.1
                    (held_at line x))
                    (all line tx.stamp (held_at line x));
              }

          later :
              (place place' stamp warp line v : ℕ) (f : Source)
              → (place' ≡ place)
              ⊎ ((place ≡ length l.committed) × (place' ≡ suc (length l.committed)))
              → (key stamp warp ≤ key_of tx → (length l.committed ≡ place' → ⊥)
              → Earlier (key stamp warp) place' (key_of tx) (length l.committed))
              → ReadNow k first l.committed (hold l) s place stamp warp line v f
              → ReadNow k first (l.committed ++ tx ∷ [])
              (without_holds (hold l) w gone) s' place' stamp warp line v f
          later place place' stamp warp line v f moved newer r =
              read_with_commit k first l.committed
              (without_holds (hold l) w gone) lines s' tx place place' stamp warp line v f
              (read_after_release k first l.committed
              (hold l) lines s s' w gone g place stamp warp line v f r) moved
              (λ x d.
              newer
              (subst (λ z. key stamp warp ≤ key tx.stamp z) (sym warp_is)
              (r.held w tx.stamp (held_at line x)))
              d)

          Late : ℕ → Transaction → Type 0
          Late place t =
              Reads k first (l.committed ++ tx ∷ []) (hold (without_current l w)) s' place t

          holds : hold (without_current l w) ≡ without_holds (hold l) w gone
          holds = all_lines_released gone s' g all

          reads_more :
              (place place' : ℕ) (t : Transaction)
              → (place' ≡ place)
              ⊎ ((place ≡ length l.committed) × (place' ≡ suc (length l.committed)))
              → (key_of t ≤ key_of tx → (length l.committed ≡ place' → ⊥)
              → Earlier (key_of t) place' (key_of tx) (length l.committed))
              → Reads k first l.committed (hold l) s place t
              → Reads k first (l.committed ++ tx ∷ []) (hold (without_current l w)) s' place' t
          reads_more place place' t moved newer r =
              subst (λ H. Reads k first (l.committed ++ tx ∷ []) H s' place' t) (sym holds)
              (each_weaker (ReadNow k first l.committed (hold l) s place t.stamp t.warp)
              (ReadNow k first (l.committed ++ tx ∷ [])
              (without_holds (hold l) w gone) s' place' t.stamp t.warp)
              (λ line v f. later place place' t.stamp t.warp line v f moved newer) t.actions r)

          one_more : length (l.committed ++ tx ∷ []) ≡ suc (length l.committed)
          one_more = let e = length_push l.committed tx in omega arith

          past_now :
              (i : ℕ) → i < length (l.committed ++ tx ∷ [])
              → Late i (transaction_named (l.committed ++ tx ∷ []) i)
          past_now i low = step (cases_lt i (length l.committed))
            where
              step :
                  (i < length l.committed) ⊎ (length l.committed ≤ i)
                  → Late i (transaction_named (l.committed ++ tx ∷ []) i)
              step (inl p) =
                  subst (Reads k first (l.committed ++ tx ∷ []) (hold (without_current l w)) s' i)
                  (sym (named_old first l.committed tx i p))
                  (reads_more i i (transaction_named l.committed i) (inl refl) (λ a d. (a, λ b. p))
                  (H.past i p))
              step (inr p) =
                  let e : length l.committed ≡ i = omega (arith, one_more) in
                  subst
                  (λ j. Late j (transaction_named (l.committed ++ tx ∷ []) j))
                  e
                  (subst (Reads k first (l.committed ++ tx ∷ []) (hold (without_current l w)) s'
                  (length l.committed))
                  (sym (named_new first l.committed tx))
                  (reads_more (length l.committed) (length l.committed) tx (inl refl)
                  (λ a d. absurd (d refl)) (H.now w tx mine)))

          now_now :
              (h : ℕ) (t : Transaction) → (h ≡ w → ⊥) → l.current h ≡ Some t
              → Late (length (l.committed ++ tx ∷ [])) t
          now_now h t n e =
              let q = H.here h t e in
              let r = H.here w tx mine in
              subst (λ place. Reads k first (l.committed ++ tx ∷ [])
              (hold (without_current l w)) s' place t) (sym one_more)
              (reads_more (length l.committed) (suc (length l.committed)) t (inr (refl, refl))
              (λ a d.
              let b : key_of t < key_of tx =
              keys_apart t.stamp t.warp tx.stamp tx.warp (omega (arith, q.0, q.1))
              warp_low (λ z. n (sym q.0 ∙ z ∙ r.0)) a
              in
              (a, λ c. absurd (omega arith)))
              (H.now h t e))

          closed :
              History (record {
                current = (without_current l w).current;
                committed = l.committed
                    ++ tx ∷ [];
              })
              (lines_after_stores lines (transaction_stores tx.actions)) s'
          closed =
              record {
                core =
                    subst (λ H. Core k first (l.committed ++ tx ∷ []) H
                    (lines_after_stores lines (transaction_stores tx.actions)) s')
                    (sym holds)
                    (core_with_commit k first l.committed
                    (without_holds (hold l) w gone) lines s' tx
                    (core_after_release k first l.committed (hold l) lines s s' w gone g H.core)
                    warp_low ready);
                past = past_now;
                now = λ h t e. now_cases h t (current_cases l w None h t e);
                here = λ h t e. here_cases h t (current_cases l w None h t e);
              }
            where
              now_cases :
                  (h : ℕ) (t : Transaction)
                  → ((h ≡ w) × (None ≡ Some t)) ⊎ ((h ≡ w → ⊥) × (l.current h ≡ Some t))
                  → Late (length (l.committed ++ tx ∷ [])) t
              now_cases h t (inl p) =
                  let q = p.1 in let z : ◌≡◌ {A = ℕ} 0 1 = cc in absurd (omega arith)
              now_cases h t (inr p) = now_now h t p.0 p.1

              here_cases :
                  (h : ℕ) (t : Transaction)
                  → ((h ≡ w) × (None ≡ Some t)) ⊎ ((h ≡ w → ⊥) × (l.current h ≡ Some t))
                  → (t.warp ≡ h) × (h < 32)
              here_cases h t (inl p) =
                  let q = p.1 in let z : ◌≡◌ {A = ℕ} 0 1 = cc in absurd (omega arith)
              here_cases h t (inr p) = H.here h t p.1
