-- The book counts for each held line the stores of its holder's transaction.
use Rattle.std.proofs.Common.{◌≡◌, ℕ, suc, ◌+◌, ◌<◌, ◌≤◌, Bool, true, false, cond, eqb, ◌⊎◌, List}
use Rattle.std.proofs.Common.{[], ◌∷◌, ◌++◌, length, is_some, Some, Option, sym, refl, ap, ◌∙◌}
use Rattle.std.proofs.Common.{subst, inl, inr, arith}
use Rattle.std.proofs.lemmas.List.{length_push}
use Rattle.std.proofs.lemmas.Bool.{both_ways, ne_eqb, cases_eq}
use Rattle.std.specs.Option.{option_map}
use Rattle.protocol.specs.Limits.{line_limit}
use Rattle.memory.specs.Lines.{Lines}
use Rattle.book.specs.Meaning.{Kind}
use Rattle.rules.specs.Lists.{contains_number}
use Rattle.rules.specs.Logs.{log_entry}
use Rattle.rules.specs.Transactions.{Action, loaded, stored, Transaction, last_own_store}
use Rattle.rules.specs.Transactions.{is_written, transaction_stores, store_count}
use Rattle.rules.specs.Ledger.{Ledger, with_action, with_current, with_begun}
use Rattle.rules.proofs.ListFacts.{eqb_refl}
use Rattle.rules.proofs.Ledgers.{hold_in, hold, hold_writes, History, current_cases}

-- A line's count is positive if the line is written, 0 if not, and at most the number of all
-- stores.
pub no_stores_unless_written : (actions : List Action) (line : ℕ) → is_written actions line ≡ false
    → store_count actions line ≡ 0
no_stores_unless_written [] line h = refl
no_stores_unless_written (loaded d ∷ actions) line h = no_stores_unless_written actions line h
no_stores_unless_written (stored s ∷ actions) line h =
    step (eqb s.line line) h (no_stores_unless_written actions line)
  where
    step :
        (b : Bool) → is_some (cond b (Some s.value) (last_own_store actions line)) ≡ false
        → (is_written actions line ≡ false → store_count actions line ≡ 0)
        → cond b 1 0 + store_count actions line ≡ 0
    step true p rest = absurd (both_ways true p refl)
    step false p rest = let e = rest p in omega arith

pub some_stores_if_written : (actions : List Action) (line : ℕ) → is_written actions line ≡ true
    → 0 < store_count actions line
some_stores_if_written [] line h = absurd (both_ways false refl h)
some_stores_if_written (loaded d ∷ actions) line h = some_stores_if_written actions line h
some_stores_if_written (stored s ∷ actions) line h =
    step (eqb s.line line) h (some_stores_if_written actions line)
  where
    step :
        (b : Bool) → is_some (cond b (Some s.value) (last_own_store actions line)) ≡ true
        → (is_written actions line ≡ true → 0 < store_count actions line)
        → 0 < cond b 1 0 + store_count actions line
    step true p rest = omega arith
    step false p rest = let e = rest p in omega arith

pub store_count_at_most_stores : (actions : List Action) (line : ℕ)
    → store_count actions line ≤ length (transaction_stores actions)
store_count_at_most_stores [] line = omega arith
store_count_at_most_stores (loaded d ∷ actions) line = store_count_at_most_stores actions line
store_count_at_most_stores (stored s ∷ actions) line =
    step (eqb s.line line) (store_count_at_most_stores actions line)
  where
    step :
        (b : Bool) → store_count actions line ≤ length (transaction_stores actions)
        → cond b 1 0 + store_count actions line ≤ length (transaction_stores actions ++ s ∷ [])
    step true h = let e = length_push (transaction_stores actions) s in omega arith
    step false h = let e = length_push (transaction_stores actions) s in omega arith

module _ (k : Kind) where
  -- The count of each held line is how often its holder's transaction stored to it.
  abbrev pub CountsAgree : Ledger → k.State → Type 0
  CountsAgree l s =
      (h : ℕ) (tx : Transaction) → l.current h ≡ Some tx → (line : ℕ)
      → is_written tx.actions line ≡ true
      → k.stores s line ≡ store_count tx.actions line

  module _ (first lines : Lines) (l : Ledger) (s s' : k.State) (H : History k first l lines s)
      (T : CountsAgree l s) where
    -- A line that a transaction stored to.
    held :
        (h : ℕ) (tx : Transaction) → l.current h ≡ Some tx → (line : ℕ)
        → is_written tx.actions line ≡ true
        → hold l h line ≡ Some tx.stamp
    held h tx e line w = ap (λ o. hold_in o line) e ∙ hold_writes tx line w

    low :
        (h : ℕ) (tx : Transaction) → l.current h ≡ Some tx → (line : ℕ)
        → is_written tx.actions line ≡ true
        → line < line_limit
    low h tx e line w = (H.core.holder h line tx.stamp (held h tx e line w)).line_low

    owned :
        (h : ℕ) (tx : Transaction) → l.current h ≡ Some tx → (line : ℕ)
        → is_written tx.actions line ≡ true
        → k.owner s line ≡ Some h
    owned h tx e line w = (H.core.holder h line tx.stamp (held h tx e line w)).owns

    -- A load changes no count.
    pub counts_after_load :
        ((line : ℕ) → line < line_limit → k.stores s' line ≡ k.stores s line)
        → (w : ℕ) (action : Transaction → Action)
        → ((tx : Transaction) (line : ℕ)
        → store_count (action tx ∷ tx.actions) line ≡ store_count tx.actions line)
        → ((tx : Transaction) (line : ℕ)
        → is_written (action tx ∷ tx.actions) line ≡ is_written tx.actions line)
        → (tx : Transaction) → l.current w ≡ Some tx
        → CountsAgree (with_current l w (option_map (λ t. with_action t (action t)) (l.current w)))
        s'
    counts_after_load same w action times wrote tx mine h t e line x =
        step (current_cases l w (option_map (λ t. with_action t (action t)) (l.current w)) h t e)
      where
        step :
            ((h ≡ w) × (option_map (λ t. with_action t (action t)) (l.current w) ≡ Some t))
            ⊎ ((h ≡ w → ⊥) × (l.current h ≡ Some t))
            → k.stores s' line ≡ store_count t.actions line
        step (inl p) =
            let q : Some (with_action tx (action tx)) ≡ Some t =
            sym (ap (option_map (λ t. with_action t (action t))) mine) ∙ p.1 in
            let one : with_action tx (action tx) ≡ t = cc in
            let y : is_written tx.actions line ≡ true =
            sym (wrote tx line) ∙ subst (λ (u : Transaction). is_written u.actions line ≡ true)
            (sym one) x
            in
            same line (low w tx mine line y) ∙ T w tx mine line y ∙ sym (times tx line)
            ∙ ap (λ (u : Transaction). store_count u.actions line) one
        step (inr p) = same line (low h t p.1 line x) ∙ T h t p.1 line x

    -- A store adds one to its line's count, which nobody else holds.
    pub counts_after_store :
        (w at v : ℕ) (tx : Transaction) → l.current w ≡ Some tx
        → ((line : ℕ) → line < line_limit → (line ≡ at → ⊥) → k.stores s' line ≡ k.stores s line)
        → k.stores s' at ≡ suc (store_count tx.actions at)
        → ((h : ℕ) → k.owner s at ≡ Some h → h ≡ w)
        → CountsAgree
        (with_current l w
        (option_map (λ t. with_action t (stored (log_entry at v))) (l.current w))) s'
    counts_after_store w at v tx mine same one_more only h t e line x =
        step (current_cases l w
        (option_map (λ t. with_action t (stored (log_entry at v))) (l.current w)) h t e)
      where
        others :
            (line ≡ at) ⊎ (line ≡ at → ⊥)
            → is_written (stored (log_entry at v) ∷ tx.actions) line ≡ true
            → k.stores s' line ≡ store_count (stored (log_entry at v) ∷ tx.actions) line
        others (inl p) y =
            ap (k.stores s') p ∙ one_more
            ∙ grow (store_count tx.actions at)
            ∙ ap (λ z. cond (eqb at z) 1 0 + store_count tx.actions z) (sym p)
          where
            grow : (n : ℕ) → suc n ≡ cond (eqb at at) 1 0 + n
            grow n = let b : ◌≡◌ {A = ℕ} (cond (eqb at at) 1 0) 1 =
                ap (λ b. cond b 1 0) (eqb_refl at) in omega arith
        others (inr p) y =
            let z : eqb at line ≡ false = ne_eqb at line (λ q. p (sym q)) in
            let y' : is_written tx.actions line ≡ true =
            sym (ap (λ b. is_some (cond b (Some v) (last_own_store tx.actions line))) z) ∙ y
            in
            let b : ◌≡◌ {A = ℕ} (cond (eqb at line) 1 0) 0 = ap (λ b. cond b 1 0) z in
            let c = same line (low w tx mine line y') p in
            let d = T w tx mine line y' in
            omega arith

        step :
            ((h ≡ w) × (option_map (λ t. with_action t (stored (log_entry at v)))
            (l.current w) ≡ Some t))
            ⊎ ((h ≡ w → ⊥) × (l.current h ≡ Some t))
            → k.stores s' line ≡ store_count t.actions line
        step (inl p) =
            let q : Some (with_action tx (stored (log_entry at v))) ≡ Some t =
            sym (ap (option_map (λ t. with_action t (stored (log_entry at v)))) mine) ∙ p.1
            in
            let one : with_action tx (stored (log_entry at v)) ≡ t = cc in
            others (cases_eq line at)
            (subst (λ (u : Transaction). is_written u.actions line ≡ true) (sym one) x)
            ∙ ap (λ (u : Transaction). store_count u.actions line) one
        step (inr p) =
            same line (low h t p.1 line x)
            (λ z. p.0 (only h (subst (λ n. k.owner s n ≡ Some h) z (owned h t p.1 line x))))
            ∙ T h t p.1 line x

    -- Releasing some lines leaves the counts of the lines that are still held.
    pub counts_after_release :
        (w : ℕ) (gone : List ℕ) (o : Option Transaction)
        → ((line : ℕ) → contains_number line gone ≡ true → (t : ℕ) × (hold l w line ≡ Some t))
        → ((line : ℕ) → line < line_limit → contains_number line gone ≡ false
        → k.stores s' line ≡ k.stores s line)
        → ((tx : Transaction) → o ≡ Some tx → (line : ℕ) → is_written tx.actions line ≡ true
        → k.stores s' line ≡ store_count tx.actions line)
        → CountsAgree (with_current l w o) s'
    counts_after_release w gone o its same left h t e line x = step (current_cases l w o h t e)
      where
        not_gone : (h ≡ w → ⊥) → l.current h ≡ Some t → (b : Bool) → contains_number line gone ≡ b
            → b ≡ false
        not_gone n p true y =
            let q = its line y in
            let a = owned h t p line x in
            let c = (H.core.holder w line q.0 q.1).owns in
            let z : h ≡ w = cc in
            absurd (n z)
        not_gone n p false y = refl

        step :
            ((h ≡ w) × (o ≡ Some t)) ⊎ ((h ≡ w → ⊥) × (l.current h ≡ Some t))
            → k.stores s' line ≡ store_count t.actions line
        step (inl p) = left t p.1 line x
        step (inr p) =
            same line (low h t p.1 line x) (not_gone p.0 p.1 (contains_number line gone) refl)
            ∙ T h t p.1 line x

  -- A new transaction has stored nothing.
  pub counts_after_begin : (l : Ledger) (s : k.State) → CountsAgree l s → (w stamp : ℕ)
      → CountsAgree (with_begun l w stamp) s
  counts_after_begin l s T w stamp h t e line x =
      step (current_cases l w (Some (record { stamp = stamp; warp = w; actions = [] })) h t e)
    where
      step :
          ((h ≡ w) × (Some (record { stamp = stamp; warp = w; actions = [] }) ≡ Some t))
          ⊎ ((h ≡ w → ⊥) × (l.current h ≡ Some t))
          → k.stores s line ≡ store_count t.actions line
      step (inl p) =
          let q = p.1 in
          let one : record { stamp = stamp; warp = w; actions = [] } ≡ t = cc in
          absurd (both_ways false refl
          (subst (λ (u : Transaction). is_written u.actions line ≡ true) (sym one) x))
      step (inr p) = T h t p.1 line x
