-- The account of transactions executed alone: its writers, its values and its loads, in any order.
use Rattle.std.proofs.Common.{◌≡◌, ℕ, Bool, true, false, cond, ◌||◌, eqb, List, [], ◌∷◌, ◌++◌}
use Rattle.std.proofs.Common.{is_some, Some, None, fold, filter, Option, sym, refl, ap, ◌∙◌, subst}
use Rattle.std.proofs.lemmas.List.Sums.{fold_push}
use Rattle.std.proofs.lemmas.Bool.{both_ways, eqb-true, or_parts, or_left, or_right}
use Rattle.std.proofs.lemmas.List.{append_assoc, append-nil}
use Rattle.std.specs.Option.{option_map}
use Rattle.memory.specs.Lines.{Lines, lines_with}
use Rattle.rules.specs.Lists.{contains_number, last_of}
use Rattle.rules.specs.Logs.{LogEntry}
use Rattle.rules.specs.Steps.{lines_after_stores}
use Rattle.rules.specs.Transactions.{Source, own_store, committed_store, initial_memory, Action}
use Rattle.rules.specs.Transactions.{loaded, stored, Transaction, last_own_store, is_written}
use Rattle.rules.specs.Transactions.{is_read, transaction_stores, transaction_named}
use Rattle.rules.specs.Transactions.{committed_source}
use Rattle.rules.specs.Account.{LoadResult, Account, load_results, load_result_alone}
use Rattle.rules.specs.Account.{load_results_alone, account_after}
use Rattle.rules.proofs.ListFacts.{eqb_sym, eqb_refl, fold_append}

-- What a line holds after a transaction's stores are written.
abbrev pub value_after_stores : Option ℕ → Option ℕ → Option ℕ
value_after_stores None old = old
value_after_stores (Some v) old = option_map (λ _. v) old

pub written_at :
    (ls : Lines) (actions : List Action) (line : ℕ)
    → lines_after_stores ls (transaction_stores actions) line ≡ value_after_stores
    (last_own_store actions line) (ls line)
written_at ls [] line = refl
written_at ls (loaded d ∷ actions) line = written_at ls actions line
written_at ls (stored s ∷ actions) line =
    ap (λ (m : Lines). m line)
    (fold_push (λ ls (s : LogEntry). lines_with ls s.line s.value) ls
    (transaction_stores actions) s)
    ∙ ap (λ b. cond b (option_map (λ _. s.value) before) before) (eqb_sym line s.line)
    ∙ step (eqb s.line line) (last_own_store actions line) (written_at ls actions line)
  where
    before : Option ℕ
    before = lines_after_stores ls (transaction_stores actions) line

    twice :
        (u : ℕ) (o : Option ℕ)
        → option_map (λ _. s.value) (option_map (λ _. u) o) ≡ option_map (λ _. s.value) o
    twice u None = refl
    twice u (Some x) = refl

    thrice : (o : Option ℕ)
        → option_map (λ _. s.value) (value_after_stores o (ls line)) ≡ option_map (λ _. s.value)
        (ls line)
    thrice None = refl
    thrice (Some u) = twice u (ls line)

    step :
        (b : Bool) (o : Option ℕ) → before ≡ value_after_stores o (ls line)
        → cond b (option_map (λ _. s.value) before) before ≡ value_after_stores
        (cond b (Some s.value) o) (ls line)
    step true o e = ap (option_map (λ _. s.value)) e ∙ thrice o
    step false o e = e

module _ (first : Lines) (txs : List Transaction) where
  -- The value of the store that a load found. A load of an own store is dealt with apart.
  abbrev pub source_value : ℕ → Source → Option ℕ
  source_value line own_store = None
  source_value line (committed_store name) =
      last_own_store (transaction_named txs name).actions line
  source_value line initial_memory = first line

  abbrev pub writer : ℕ → ℕ → Bool
  writer line name = is_written (transaction_named txs name).actions line

  -- Executed alone in an order, the writers of a line are those of the order that stored to it.
  pub writers_alone :
      (line : ℕ) (order : List ℕ) (a : Account)
      → (fold (account_after txs) a order).line_writers line
      ≡ a.line_writers line ++ filter (writer line) order
  unfolding account_after
  writers_alone line [] a = sym (append-nil (a.line_writers line))
  writers_alone line (x ∷ order) a =
      writers_alone line order (account_after txs a x)
      ∙ append_assoc (a.line_writers line) (cond (writer line x) (x ∷ []) [])
      (filter (writer line) order)
      ∙ ap (λ l. a.line_writers line ++ l) (step (writer line x))
    where
      step :
          (b : Bool) → cond b (x ∷ []) [] ++ filter (writer line) order
          ≡ cond b (x ∷ filter (writer line) order) (filter (writer line) order)
      step true = refl
      step false = refl

  -- The value of a line is its last writer's, or the initial memory's.
  pub values_alone :
      (line : ℕ) (order : List ℕ) (a : Account) (o : Option ℕ)
      → a.last_values line ≡ source_value line (committed_source o)
      → ((name : ℕ) → writer line name ≡ true → is_some (a.last_values line) ≡ true)
      → (fold (account_after txs) a order).last_values line
      ≡ source_value line (committed_source (fold (λ _ n. Some n) o (filter (writer line) order)))
  unfolding account_after
  values_alone line [] a o e there = e
  values_alone line (x ∷ order) a o e there =
      step (last_own_store (transaction_named txs x).actions line) refl
      (λ p.
      values_alone line order (account_after txs a x) p)
    where
      at_line : (account_after txs a x).last_values line ≡ value_after_stores
          (last_own_store (transaction_named txs x).actions line) (a.last_values line)
      at_line = written_at a.last_values (transaction_named txs x).actions line

      goal : Option ℕ → List ℕ → Type 0
      goal p ws =
          (fold (account_after txs) (account_after txs a x) order).last_values line
          ≡ source_value line (committed_source (fold (λ _ n. Some n) p ws))

      rest : Type 0
      rest =
          (p : Option ℕ)
          → (account_after txs a x).last_values line ≡ source_value line (committed_source p)
          → ((name : ℕ) → writer line name ≡ true
          → is_some ((account_after txs a x).last_values line) ≡ true)
          → goal p (filter (writer line) order)

      some_mapped : (v : ℕ) (q : Option ℕ) → is_some q ≡ true → option_map (λ _. v) q ≡ Some v
      some_mapped v None h = absurd (both_ways false refl h)
      some_mapped v (Some u) h = refl

      step :
          (m : Option ℕ) → last_own_store (transaction_named txs x).actions line ≡ m → rest
          → goal o (cond (is_some m) (x ∷ filter (writer line) order) (filter (writer line) order))
      step None q more =
          let same : (account_after txs a x).last_values line ≡ a.last_values line =
          at_line ∙ ap (λ m. value_after_stores m (a.last_values line)) q
          in
          more o (same ∙ e) (λ name w. ap is_some same ∙ there name w)
      step (Some v) q more =
          let same : (account_after txs a x).last_values line ≡ Some v =
          at_line ∙ ap (λ m. value_after_stores m (a.last_values line)) q
          ∙ some_mapped v (a.last_values line) (there x (ap is_some q))
          in
          more (Some x) (same ∙ sym q) (λ name w. ap is_some same)

  -- What the loads of a transaction got does not change unless it is executed again.
  pub loads_stay :
      (i : ℕ) (order : List ℕ) (a : Account) → contains_number i order ≡ false
      → (fold (account_after txs) a order).loads i ≡ a.loads i
  unfolding account_after
  loads_stay i [] a h = refl
  loads_stay i (x ∷ order) a h =
      let k = or_parts (eqb x i) (contains_number i order) h in
      loads_stay i order (account_after txs a x) k.1
      ∙ ap (λ b. cond b (load_results_alone a (transaction_named txs x).actions) (a.loads i))
      (eqb_sym i x ∙ k.0)

  -- The loads of a transaction get what the account says when it is executed.
  pub loads_alone :
      (i : ℕ) (p q : List ℕ) (a : Account) → contains_number i q ≡ false
      → (fold (account_after txs) a (p ++ i ∷ q)).loads i
      ≡ load_results_alone (fold (account_after txs) a p) (transaction_named txs i).actions
  unfolding account_after
  loads_alone i p q a h =
      ap (λ (b : Account). b.loads i) (fold_append (account_after txs) a p (i ∷ q))
      ∙ loads_stay i q (account_after txs (fold (account_after txs) a p) i) h
      ∙ ap (λ b. cond b (load_results_alone here (transaction_named txs i).actions) (here.loads i))
      (eqb_refl i)
    where
      here : Account
      here = fold (account_after txs) a p

-- What holds of each load of a transaction: after an own store to the line it gave that store's
-- value, and otherwise P holds.
abbrev pub AtLoad : (ℕ → ℕ → Source → Type 0) → ℕ → ℕ → Source → Option ℕ → Type 0
AtLoad P line v f (Some u) = (v ≡ u) × (f ≡ own_store)
AtLoad P line v f None = P line v f

abbrev pub EachLoad : (ℕ → ℕ → Source → Type 0) → List Action → Type 0
EachLoad P [] = Unit {0}
EachLoad P (loaded d ∷ actions) = AtLoad P d.line d.value d.source (last_own_store actions d.line)
    × EachLoad P actions
EachLoad P (stored s ∷ actions) = EachLoad P actions

pub each_weaker :
    (P Q : ℕ → ℕ → Source → Type 0) → ((line v : ℕ) (f : Source) → P line v f → Q line v f)
    → (actions : List Action) → EachLoad P actions → EachLoad Q actions
each_weaker P Q to [] h = tt
each_weaker P Q to (loaded d ∷ actions) h =
    (step (last_own_store actions d.line) h.0, each_weaker P Q to actions h.1)
  where
    step : (o : Option ℕ) → AtLoad P d.line d.value d.source o → AtLoad Q d.line d.value d.source o
    step None p = to d.line d.value d.source p
    step (Some u) p = p
each_weaker P Q to (stored s ∷ actions) h = each_weaker P Q to actions h

-- Loads that find the same sources alone as in the run get the same values, and the other way
-- round.
module _ (P : ℕ → ℕ → Source → Type 0) (a : Account) where
  abbrev there : ℕ → Source
  there line = committed_source (last_of (a.line_writers line))

  pub loads_get_the_same :
      ((line v : ℕ) (f : Source) → P line v f → (a.last_values line ≡ Some v) × (there line ≡ f))
      → (actions : List Action) → EachLoad P actions
      → load_results actions ≡ load_results_alone a actions
  loads_get_the_same same [] h = refl
  loads_get_the_same same (loaded d ∷ actions) h =
      ap (λ g. g ∷ load_results actions) (step (last_own_store actions d.line) h.0)
      ∙ ap (λ l. load_result_alone (last_own_store actions d.line) (a.last_values d.line)
      (there d.line) ∷ l)
      (loads_get_the_same same actions h.1)
    where
      got : ℕ → Source → LoadResult
      got u g = record { value = Some u; source = g }

      step :
          (o : Option ℕ) → AtLoad P d.line d.value d.source o
          → got d.value d.source ≡ load_result_alone o (a.last_values d.line) (there d.line)
      step (Some u) p = ap (λ x. got x d.source) p.0 ∙ ap (got u) p.1
      step None p =
          let s = same d.line d.value d.source p in
          (λ i. record { value = sym s.0 i; source = sym s.1 i })
  loads_get_the_same same (stored s ∷ actions) h = loads_get_the_same same actions h

  pub loads_find_the_same :
      (actions : List Action) → load_results actions ≡ load_results_alone a actions
      → EachLoad P actions
      → EachLoad (λ line v f. P line v f × (f ≡ there line)) actions
  loads_find_the_same [] e h = tt
  loads_find_the_same (loaded d ∷ actions) e h =
      (step (last_own_store actions d.line) h.0 (cc), loads_find_the_same actions (cc) h.1)
    where
      step :
          (o : Option ℕ) → AtLoad P d.line d.value d.source o
          → record { value = Some d.value; source = d.source } ≡ load_result_alone o
          (a.last_values d.line) (there d.line)
          → AtLoad (λ line v f. P line v f × (f ≡ there line)) d.line d.value d.source o
      step (Some u) p q = p
      step None p q = (p, ap (λ (g : LoadResult). g.source) q)
  loads_find_the_same (stored s ∷ actions) e h = loads_find_the_same actions e h

-- A transaction that loaded a line and never stored to it has a load for which P holds.
pub read_source :
    (P : ℕ → ℕ → Source → Type 0) (line : ℕ) (actions : List Action) → is_read actions line ≡ true
    → last_own_store actions line ≡ None → EachLoad P actions → (v : ℕ) × (f : Source) × P line v f
read_source P line [] r n h = absurd (both_ways false refl r)
read_source P line (loaded d ∷ actions) r n h =
    step (eqb d.line line) refl r (λ k. read_source P line actions k n h.1)
  where
    step :
        (b : Bool) → eqb d.line line ≡ b → (b || is_read actions line) ≡ true
        → (is_read actions line ≡ true → (v : ℕ) × (f : Source) × P line v f)
        → (v : ℕ) × (f : Source) × P line v f
    step true e k rest =
        let same : d.line ≡ line = eqb-true d.line line e in
        let here : AtLoad P d.line d.value d.source None =
        subst (AtLoad P d.line d.value d.source) (ap (last_own_store actions) same ∙ n) h.0
        in
        (d.value, d.source, subst (λ l. P l d.value d.source) same here)
    step false e k rest = rest k
read_source P line (stored s ∷ actions) r n h =
    read_source P line actions r (step (eqb s.line line) n) h
  where
    step : (b : Bool) → cond b (Some s.value) (last_own_store actions line) ≡ None
        → last_own_store actions line ≡ None
    step true k = cc
    step false k = k

-- Each load is of a line that its transaction read, so a fact about the read lines holds at each
-- load.
pub each_read :
    (P : ℕ → ℕ → Source → Type 0) (R : ℕ → Type 0) (actions : List Action)
    → ((line : ℕ) → is_read actions line ≡ true → R line) → EachLoad P actions
    → EachLoad (λ line v f. P line v f × R line) actions
each_read P R [] to h = tt
each_read P R (loaded d ∷ actions) to h = (
  step (last_own_store actions d.line) h.0,
  each_read P R actions (λ l r. to l (or_right (eqb d.line l) (is_read actions l) r)) h.1,
)
  where
    step :
        (o : Option ℕ) → AtLoad P d.line d.value d.source o
        → AtLoad (λ line v f. P line v f × R line) d.line d.value d.source o
    step (Some u) p = p
    step None p =
        (p, to d.line (or_left (eqb d.line d.line) (is_read actions d.line) (eqb_refl d.line)))
each_read P R (stored s ∷ actions) to h = each_read P R actions to h
