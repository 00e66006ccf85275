-- From four facts about committed transactions: executed alone in an order they give the account of
-- the run exactly if the order is that of logical time wherever they conflict. This is about lists
-- only; the machine comes in with the facts.
use Rattle.std.proofs.Common.{◌≡◌, ℕ, suc, ◌+◌, ◌*◌, ◌<◌, ◌≤◌, Bool, true, false, cond, ◌&&◌, ◌||◌}
use Rattle.std.proofs.Common.{eqb, ltb, ◌⊎◌, List, [], ◌∷◌, ◌++◌, length, is_some, Some, None}
use Rattle.std.proofs.Common.{filter, Option, sym, refl, ap, ◌∙◌, subst, inl, inr, ⊎_elim, arith}
use Rattle.std.proofs.lemmas.Bool.{both_ways, eq-eqb, ne_eqb, cases_Bool, cases_lt, cases_order}
use Rattle.std.proofs.lemmas.Bool.{lt-ltb, or_left, or_right, or_cases}
use Rattle.std.proofs.lemmas.Bool.Decides.{nat_tests}
use Rattle.std.proofs.lemmas.List.{get_or_past}
use Rattle.memory.specs.Lines.{Lines}
use Rattle.rules.specs.Lists.{contains_number, last_of, numbers_below, occurrences, is_before}
use Rattle.rules.specs.Transactions.{Source, own_store, committed_store, initial_memory}
use Rattle.rules.specs.Transactions.{Transaction, no_transaction, last_own_store, is_written}
use Rattle.rules.specs.Transactions.{is_read, transaction_named, writers, committed_source}
use Rattle.rules.specs.Account.{Account, load_results, load_results_alone, serial_account}
use Rattle.rules.specs.Account.{account_of, EachOnce, EqualAccounts}
use Rattle.rules.specs.LogicalTime.{is_earlier, IsInLogicalOrder}
use Rattle.rules.proofs.ListFacts.{has_append, has_filter, filter_has, filter_append, has_of_filter}
use Rattle.rules.proofs.ListFacts.{has_numbers_below, has_count, Once}
use Rattle.rules.proofs.ListFacts.{once_apart, split_at, front_before, before_at, before_in_front}
use Rattle.rules.proofs.ListFacts.{Rising, rising_left}
use Rattle.rules.proofs.ListFacts.{rising_apart, filtered_numbers_below_rise, rising_same}
use Rattle.rules.proofs.ListFacts.{rising_from_before}
use Rattle.rules.proofs.ListFacts.{before_from_rising}
use Rattle.rules.proofs.ListFacts.{last_none, last_is_in, last_some, last_is_greatest, last_rising}
use Rattle.rules.proofs.SerialAccount.{source_value, writer, writers_alone, values_alone}
use Rattle.rules.proofs.SerialAccount.{loads_alone}
use Rattle.rules.proofs.SerialAccount.{EachLoad, loads_get_the_same}
use Rattle.rules.proofs.SerialAccount.{loads_find_the_same, read_source, each_read}

-- A stamp and a warp below 32 as one number, in the order of logical time.
abbrev pub key : ℕ → ℕ → ℕ
key stamp warp = 32 * stamp + warp

abbrev pub key_of : Transaction → ℕ
key_of tx = key tx.stamp tx.warp

-- Earlier in logical time: by the number, then by the place of the commit.
abbrev pub Earlier : ℕ → ℕ → ℕ → ℕ → Type 0
Earlier k place l place' = (k ≤ l) × (l ≤ k → place < place')

time_numbers :
    (s w a t v b : ℕ) → w < 32 → v < 32
    → ((ltb s t || (eqb s t && ltb w v)) || (eqb s t && (eqb w v && ltb a b))) ≡ true
    → Earlier (key s w) a (key t v) b
time_numbers s w a t v b hw hv h = grind (arith, nat_tests)

numbers_time :
    (s w a t v b : ℕ) → w < 32 → v < 32 → Earlier (key s w) a (key t v) b
    → ((ltb s t || (eqb s t && ltb w v)) || (eqb s t && (eqb w v && ltb a b))) ≡ true
numbers_time s w a t v b hw hv h = grind (arith, nat_tests)

-- Two transactions conflict if one writes the line and the other uses it.
conflict_of_left_writer :
    (wa ra wb rb : Bool) → wa ≡ true → (wb || rb) ≡ true
    → ((wa || ra) && ((wb || rb) && (wa || wb))) ≡ true
conflict_of_left_writer true ra true rb p q = refl
conflict_of_left_writer true ra false true p q = refl
conflict_of_left_writer true ra false false p q = q
conflict_of_left_writer false ra wb rb p q = absurd (both_ways false refl p)

conflict_of_right_writer :
    (wa ra wb rb : Bool) → (wa || ra) ≡ true → wb ≡ true
    → ((wa || ra) && ((wb || rb) && (wa || wb))) ≡ true
conflict_of_right_writer true ra true rb p q = refl
conflict_of_right_writer false true true rb p q = refl
conflict_of_right_writer false false true rb p q = p
conflict_of_right_writer wa ra false rb p q = absurd (both_ways false refl q)

-- A conflict is one of two writers, of a writer and a reader that never writes, or of such a reader
-- and a writer.
data ConflictKind : Bool → Bool → Bool → Bool → Type 0 where
  two_writers : {wa ra wb rb : Bool} → wa ≡ true → wb ≡ true → ConflictKind wa ra wb rb
  writer_and_reader : {wa ra wb rb : Bool} → wa ≡ true → wb ≡ false → rb ≡ true
      → ConflictKind wa ra wb rb
  reader_and_writer : {wa ra wb rb : Bool} → wa ≡ false → ra ≡ true → wb ≡ true
      → ConflictKind wa ra wb rb

conflict_kind : (wa ra wb rb : Bool) → ((wa || ra) && ((wb || rb) && (wa || wb))) ≡ true
    → ConflictKind wa ra wb rb
conflict_kind true ra true rb h = two_writers refl refl
conflict_kind true ra false true h = writer_and_reader refl refl refl
conflict_kind true ra false false h = absurd (both_ways false refl h)
conflict_kind false true true rb h = reader_and_writer refl refl refl
conflict_kind false true false true h = absurd (both_ways false refl h)
conflict_kind false true false false h = absurd (both_ways false refl h)
conflict_kind false false wb rb h = absurd (both_ways false refl h)

-- How many commits there were up to the store that a load found.
abbrev pub commits_seen : Source → ℕ
commits_seen own_store = 0
commits_seen (committed_store name) = suc name
commits_seen initial_memory = 0

module _ (first : Lines) (txs : List Transaction) where
  abbrev pub stamp_at : ℕ → ℕ
  stamp_at name = (transaction_named txs name).stamp

  abbrev pub key_at : ℕ → ℕ
  key_at name = key_of (transaction_named txs name)

  -- The source is a committed writer of the line or the initial memory.
  abbrev pub NamesWriter : Source → ℕ → Type 0
  NamesWriter own_store line = ⊥
  NamesWriter (committed_store name) line = writer first txs line name ≡ true
  NamesWriter initial_memory line = Unit {0}

  -- A load by a transaction with a place, a stamp and a warp found the right store: the writers up
  -- to the one found have smaller stamps, and every other writer, except the transaction itself, is
  -- later in logical time.
  pub record IsRightSource (place stamp warp line v : ℕ) (f : Source) : Type 0 where
    pub names : NamesWriter f line
    pub value : source_value first txs line f ≡ Some v
    pub before : (j : ℕ) → writer first txs line j ≡ true → j < commits_seen f → stamp_at j < stamp
    pub after :
        (j : ℕ) → writer first txs line j ≡ true → commits_seen f ≤ j → (j ≡ place → ⊥)
        → Earlier (key stamp warp) place (key_at j) j

-- The four facts: writers of a line commit in the order of their stamps; loads found the right
-- stores; the memory holds the last writers' values; and warps and written lines are the machine's.
pub record Serial (first : Lines) (txs : List Transaction) (memory : Lines) : Type 0 where
  pub sorted :
      (line i j : ℕ) → i < j → writer first txs line i ≡ true → writer first txs line j ≡ true
      → (transaction_named txs i).stamp < (transaction_named txs j).stamp
  pub loads :
      (i : ℕ) → i < length txs
      → EachLoad (IsRightSource first txs i (transaction_named txs i).stamp
      (transaction_named txs i).warp) (transaction_named txs i).actions
  pub last : (line : ℕ)
      → memory line ≡ source_value first txs line (committed_source (last_of (writers txs line)))
  pub warps : (i : ℕ) → i < length txs → (transaction_named txs i).warp < 32
  pub there : (line i : ℕ) → writer first txs line i ≡ true → is_some (first line) ≡ true

pub writer_below :
    (first : Lines) (txs : List Transaction) (line i : ℕ) → writer first txs line i ≡ true
    → i < length txs
writer_below first txs line i h =
    ⊎_elim (λ l. l)
    (λ g.
    absurd
    (both_ways (writer first txs line i)
    (ap (λ (tx : Transaction). is_written tx.actions line) (get_or_past txs i no_transaction g)) h))
    (cases_lt i (length txs))

module _ (first : Lines) (txs : List Transaction) (memory : Lines)
    (S : Serial first txs memory) where
  abbrev n : ℕ
  n = length txs

  abbrev wr : ℕ → ℕ → Bool
  wr line i = writer first txs line i

  below : (line i : ℕ) → wr line i ≡ true → i < n
  below line i h = writer_below first txs line i h

  earlier_bit :
      (a b : ℕ) → a < n → b < n → Earlier (key_at first txs a) a (key_at first txs b) b
      → is_earlier txs a b ≡ true
  earlier_bit a b ha hb e =
      numbers_time (transaction_named txs a).stamp (transaction_named txs a).warp a
      (transaction_named txs b).stamp (transaction_named txs b).warp b
      (S.warps a ha) (S.warps b hb) e

  bit_earlier :
      (a b : ℕ) → a < n → b < n → is_earlier txs a b ≡ true
      → Earlier (key_at first txs a) a (key_at first txs b) b
  bit_earlier a b ha hb e =
      time_numbers (transaction_named txs a).stamp (transaction_named txs a).warp a
      (transaction_named txs b).stamp (transaction_named txs b).warp b
      (S.warps a ha) (S.warps b hb) e

  stamp_earlier :
      (a b : ℕ) → a < n → b < n → (transaction_named txs a).stamp < (transaction_named txs b).stamp
      → Earlier (key_at first txs a) a (key_at first txs b) b
  stamp_earlier a b ha hb l = let p = S.warps a ha in let q = S.warps b hb in omega arith

  module _ (order : List ℕ) (each : EachOnce order (length txs)) where
    abbrev start : Account
    start = record { loads = λ i. []; last_values = first; line_writers = λ line. [] }

    in_order : (z : ℕ) → contains_number z order ≡ ltb z n
    in_order z = has_count z order ∙ ap (ltb 0) (each z) ∙ step (ltb z n)
      where
        step : (b : Bool) → ltb 0 (cond b 1 0) ≡ b
        step true = refl
        step false = refl

    stands : (z : ℕ) → z < n → contains_number z order ≡ true
    stands z l = in_order z ∙ lt-ltb z n l

    once : Once order
    once z = step (ltb z n) (each z)
      where
        step : (b : Bool) → occurrences z order ≡ cond b 1 0 → occurrences z order ≤ 1
        step true e = omega arith
        step false e = omega arith

    -- The writers and the value of a line after some transactions of the order.
    serial_writers : (line : ℕ) (p : List ℕ)
        → (serial_account first txs p).line_writers line ≡ filter (wr line) p
    serial_writers line p = writers_alone first txs line p start

    serial_values :
        (line : ℕ) (p : List ℕ)
        → (serial_account first txs p).last_values line
        ≡ source_value first txs line (committed_source (last_of (filter (wr line) p)))
    serial_values line p = values_alone first txs line p start None refl (λ i h. S.there line i h)

    -- If the order is split at a name, that name is in neither part.
    not_front : (i : ℕ) (p q : List ℕ) → order ≡ p ++ i ∷ q → contains_number i p ≡ false
    not_front i p q e =
        ⊎_elim
        (λ h.
        absurd
        (once_apart i p (i ∷ q) (subst Once e once) h
        (or_left (eqb i i) (contains_number i q) (eq-eqb i i refl))))
        (λ h. h) (cases_Bool (contains_number i p))

    not_back : (i : ℕ) (p q : List ℕ) → order ≡ p ++ i ∷ q → contains_number i q ≡ false
    not_back i p q e =
        ⊎_elim
        (λ h. absurd (once_apart i (p ++ i ∷ []) q (subst Once (e ∙ regroup p) once)
        (in_front p) h))
        (λ h. h) (cases_Bool (contains_number i q))
      where
        regroup : (l : List ℕ) → l ++ i ∷ q ≡ (l ++ i ∷ []) ++ q
        regroup [] = refl
        regroup (x ∷ l) = ap (λ r. x ∷ r) (regroup l)

        in_front : (l : List ℕ) → contains_number i (l ++ i ∷ []) ≡ true
        in_front l =
            has_append i l (i ∷ [])
            ∙ or_right (contains_number i l) (contains_number i (i ∷ []))
            (or_left (eqb i i) false (eq-eqb i i refl))

    -- From logical order to equal accounts.
    module _ (logical : IsInLogicalOrder txs order) where
      writers_rise : (line : ℕ) → Rising (filter (wr line) order)
      writers_rise line =
          rising_from_before (wr line) order once
          (λ a b ta tb ha hb l.
          logical a b (below line a ta) (below line b tb) (
            line,
            conflict_of_left_writer (wr line a) (is_read (transaction_named txs a).actions line)
                (wr line b)
                (is_read (transaction_named txs b).actions line) ta
                (or_left (wr line b) (is_read (transaction_named txs b).actions line) tb),
          )
          (earlier_bit a b (below line a ta) (below line b tb)
          (stamp_earlier a b (below line a ta) (below line b tb) (S.sorted line a b l ta tb))))

      writers_same : (line : ℕ) → filter (wr line) order ≡ writers txs line
      writers_same line =
          rising_same (filter (wr line) order) (writers txs line) (writers_rise line)
          (filtered_numbers_below_rise (wr line) n)
          (λ z.
          has_filter (wr line) z order
          ∙ ap (λ b. b && wr line z) (in_order z ∙ sym (has_numbers_below z n))
          ∙ sym (has_filter (wr line) z (numbers_below n)))

      -- The writers before a reader in the order are just those up to the store that it found.
      module _ (i : ℕ) (i_low : i < n) (p q : List ℕ) (cut : order ≡ p ++ i ∷ q) (line v : ℕ)
          (f : Source)
          (right : IsRightSource first txs i (transaction_named txs i).stamp
          (transaction_named txs i).warp line v f)
          (reader : is_read (transaction_named txs i).actions line ≡ true)
        where
          front_seen : (j : ℕ) → contains_number j (filter (wr line) p) ≡ true → j < commits_seen f
          front_seen j h = ⊎_elim (λ l. l) late (cases_lt j (commits_seen f))
            where
              j_front : contains_number j p ≡ true
              j_front = (has_of_filter (wr line) j p h).0

              j_writes : wr line j ≡ true
              j_writes = (has_of_filter (wr line) j p h).1

              other : j ≡ i → ⊥
              other e = both_ways (contains_number i p) (not_front i p q cut)
                  (subst (λ z. contains_number z p ≡ true) e j_front)

              late : commits_seen f ≤ j → j < commits_seen f
              late l =
                  let first_i : is_before order i j ≡ true =
                  logical i j i_low (below line j j_writes) (
                    line,
                    conflict_of_right_writer (wr line i)
                        (is_read (transaction_named txs i).actions line) (wr line j)
                        (is_read (transaction_named txs j).actions line)
                        (or_right (wr line i)
                        (is_read (transaction_named txs i).actions line) reader) j_writes,
                  )
                  (earlier_bit i j i_low (below line j j_writes) (right.after j j_writes l other))
                  in
                  let in_back : contains_number j q ≡ true =
                  sym (before_at p q i j (not_front i p q cut))
                  ∙ subst (λ o. is_before o i j ≡ true) cut first_i
                  in
                  absurd
                  (once_apart j p (i ∷ q) (subst Once cut once) j_front
                  (or_right (eqb i j) (contains_number j q) in_back))

          seen_front : (j : ℕ) → wr line j ≡ true → j < commits_seen f
              → contains_number j (filter (wr line) p) ≡ true
          seen_front j t l =
              filter_has (wr line) j p
              (before_in_front p q j i (not_front i p q cut) (not_back i p q cut)
              (subst (λ o. is_before o j i ≡ true) cut
              (logical j i (below line j t) i_low (
                line,
                conflict_of_left_writer (wr line j) (is_read (transaction_named txs j).actions line)
                    (wr line i)
                    (is_read (transaction_named txs i).actions line) t
                    (or_right (wr line i) (is_read (transaction_named txs i).actions line) reader),
              )
              (earlier_bit j i (below line j t) i_low
              (stamp_earlier j i (below line j t) i_low (right.before j t l))))))
              t

          front_rises : Rising (filter (wr line) p)
          front_rises =
              rising_left (filter (wr line) p) (filter (wr line) (i ∷ q))
              (subst Rising (ap (filter (wr line)) cut ∙ filter_append (wr line) p (i ∷ q))
              (writers_rise line))

          finds : committed_source (last_of (filter (wr line) p)) ≡ f
          finds = step f right.names front_seen seen_front
            where
              step :
                  (g : Source) → NamesWriter first txs g line
                  → ((j : ℕ) → contains_number j (filter (wr line) p) ≡ true → j < commits_seen g)
                  → ((j : ℕ) → wr line j ≡ true → j < commits_seen g
                  → contains_number j (filter (wr line) p) ≡ true)
                  → committed_source (last_of (filter (wr line) p)) ≡ g
              step own_store bad up down = absurd bad
              step (committed_store j) t up down =
                  ap committed_source
                  (last_rising (filter (wr line) p) j front_rises (down j t (omega arith))
                  (λ y h. let l = up y h in omega arith))
              step initial_memory t up down =
                  ap committed_source
                  (last_none (filter (wr line) p)
                  (λ y.
                  ⊎_elim (λ h. let l = up y h in absurd (omega arith)) (λ h. h)
                  (cases_Bool (contains_number y (filter (wr line) p)))))

          gets : ((serial_account first txs p).last_values line ≡ Some v)
              × (committed_source (last_of ((serial_account first txs p).line_writers line)) ≡ f)
          gets = (
            serial_values line p ∙ ap (source_value first txs line) finds ∙ right.value,
            ap (λ l. committed_source (last_of l)) (serial_writers line p) ∙ finds,
          )

      equal_loads : (i : ℕ) → i < n
          → load_results (transaction_named txs i).actions ≡
          (serial_account first txs order).loads i
      equal_loads i l =
          let s = split_at i order (stands i l) in
          let actions = (transaction_named txs i).actions in
          let P : ℕ → ℕ → Source → Type 0 =
          λ line v f.
          IsRightSource first txs i (transaction_named txs i).stamp
          (transaction_named txs i).warp line v f
          × (is_read actions line ≡ true)
          in
          loads_get_the_same P (serial_account first txs s.front)
          (λ line v f r. gets i l s.front s.back s.whole line v f r.0 r.1) actions
          (each_read (IsRightSource first txs i (transaction_named txs i).stamp
          (transaction_named txs i).warp)
          (λ line. is_read actions line ≡ true) actions (λ line r. r) (S.loads i l))
          ∙ sym (loads_alone first txs i s.front s.back start (not_back i s.front s.back s.whole))
          ∙ ap (λ o. (serial_account first txs o).loads i) (sym s.whole)

      equal : EqualAccounts n (account_of txs memory) (serial_account first txs order)
      equal =
          record {
            same_loads = equal_loads;
            same_values =
                λ line.
                S.last line
                ∙ ap (λ ws. source_value first txs line (committed_source (last_of ws)))
                (sym (writers_same line))
                ∙ sym (serial_values line order);
            same_writers = λ line. sym (writers_same line) ∙ sym (serial_writers line order);
          }

    -- From equal accounts to logical order.
    module _ (equal_accounts : EqualAccounts n (account_of txs memory)
        (serial_account first txs order)) where
      same_turns : (line : ℕ) → filter (wr line) order ≡ writers txs line
      same_turns line = sym (serial_writers line order) ∙ sym (equal_accounts.same_writers line)

      turns_rise : (line : ℕ) → Rising (filter (wr line) order)
      turns_rise line =
          subst Rising (sym (same_turns line)) (filtered_numbers_below_rise (wr line) n)

      -- A transaction that loaded a line and never stored to it found the same source alone and in
      -- the run.
      finding :
          (i line : ℕ) → i < n → (p q : List ℕ) → order ≡ p ++ i ∷ q
          → is_read (transaction_named txs i).actions line ≡ true → wr line i ≡ false
          → (v : ℕ) × (f : Source)
          × (IsRightSource first txs i (transaction_named txs i).stamp
          (transaction_named txs i).warp line v f
          × (f ≡ committed_source (last_of (filter (wr line) p))))
      finding i line l p q cut r t =
          let actions = (transaction_named txs i).actions in
          let P : ℕ → ℕ → Source
          → Type 0 = IsRightSource first txs i (transaction_named txs i).stamp
          (transaction_named txs i).warp in
          let e : load_results actions ≡ load_results_alone (serial_account first txs p) actions =
          equal_accounts.same_loads i l ∙ ap (λ o. (serial_account first txs o).loads i) cut
          ∙ loads_alone first txs i p q start (not_back i p q cut)
          in
          let g =
          read_source
          (λ line v f. P line v f
          × (f ≡ committed_source (last_of ((serial_account first txs p).line_writers line))))
          line actions r (no_store (last_own_store actions line) t)
          (loads_find_the_same P (serial_account first txs p) actions e (S.loads i l))
          in (
            g.0,
            g.1,
            (
              g.2.0,
              g.2.1
                  ∙ ap (λ ws. committed_source (last_of ws)) (serial_writers line p),
            ),
          )
        where
          no_store : (o : Option ℕ) → is_some o ≡ false → o ≡ None
          no_store None h = refl
          no_store (Some v) h = absurd (both_ways true h refl)

      parts_rise :
          (line i : ℕ) (p q : List ℕ) → order ≡ p ++ i ∷ q
          → Rising (filter (wr line) p ++ filter (wr line) (i ∷ q))
      parts_rise line i p q cut =
          subst Rising (ap (filter (wr line)) cut ∙ filter_append (wr line) p (i ∷ q))
          (turns_rise line)

      module _ (a b : ℕ) (a_low : a < n) (b_low : b < n) (line : ℕ)
          (time : is_earlier txs a b ≡ true) where
        apart : a ≡ b → ⊥
        apart e =
            let t = bit_earlier a b a_low b_low time in
            let k : key_at first txs a ≡ key_at first txs b = ap (key_at first txs) e in
            omega (arith, t.1)

        both_write : wr line a ≡ true → wr line b ≡ true → is_before order a b ≡ true
        both_write ta tb =
            before_from_rising (wr line) order a b (turns_rise line) ta tb (stands a a_low)
            (stands b b_low)
            (smaller (cases_order a b))
          where
            smaller : (a ≡ b) ⊎ ((a < b) ⊎ (b < a)) → a < b
            smaller (inl e) = absurd (apart e)
            smaller (inr (inl l)) = l
            smaller (inr (inr l)) =
                let t = bit_earlier a b a_low b_low time in
                let u = stamp_earlier b a b_low a_low (S.sorted line b a l tb ta) in
                absurd (omega
                (arith, t.1, u.1, S.warps a a_low, S.warps b b_low, S.sorted line b a l tb ta))

        writer_first :
            wr line a ≡ true → wr line b ≡ false
            → is_read (transaction_named txs b).actions line ≡ true
            → is_before order a b ≡ true
        writer_first ta tb rb =
            let s = split_at b order (stands b b_low) in
            let g = finding b line b_low s.front s.back s.whole rb tb in
            subst (λ o. is_before o a b ≡ true) (sym s.whole)
            (front_before s.front s.back a b
            (in_front s.front s.back s.whole g.1 g.2.0.after g.2.1))
          where
            in_front :
                (p q : List ℕ) → order ≡ p ++ b ∷ q → (f : Source)
                → ((j : ℕ) → wr line j ≡ true → commits_seen f ≤ j → (j ≡ b → ⊥)
                → Earlier (key_at first txs b) b (key_at first txs j) j)
                → f ≡ committed_source (last_of (filter (wr line) p)) → contains_number a p ≡ true
            in_front p q cut f later e = by_last (last_of (filter (wr line) p)) refl
              where
                saw : a < commits_seen f
                saw =
                    ⊎_elim (λ l. l)
                    (λ l.
                    let t = bit_earlier a b a_low b_low time in
                    let u = later a ta l apart in
                    absurd (omega (arith, t.1, u.1)))
                    (cases_lt a (commits_seen f))

                in_whole : contains_number a (p ++ b ∷ q) ≡ true
                in_whole = subst (λ o. contains_number a o ≡ true) cut (stands a a_low)

                by_last : (o : Option ℕ) → last_of (filter (wr line) p) ≡ o
                    → contains_number a p ≡ true
                by_last None k =
                    let z : commits_seen f ≡ 0 = ap commits_seen (e ∙ ap committed_source k)
                    in absurd (omega (arith, saw))
                by_last (Some j) k =
                    let z : commits_seen f ≡ suc j = ap commits_seen (e ∙ ap committed_source k) in
                    ⊎_elim (λ h. h)
                    (λ h.
                    let up : j < a =
                    rising_apart (filter (wr line) p) (filter (wr line) (b ∷ q)) j a
                    (parts_rise line b p q cut)
                    (last_is_in (filter (wr line) p) j k) (filter_has (wr line) a (b ∷ q) h ta)
                    in
                    absurd (omega (arith, saw)))
                    (or_cases (contains_number a p) (contains_number a (b ∷ q))
                    (sym (has_append a p (b ∷ q)) ∙ in_whole))

        reader_first :
            wr line a ≡ false → is_read (transaction_named txs a).actions line ≡ true
            → wr line b ≡ true
            → is_before order a b ≡ true
        reader_first ta ra tb =
            let s = split_at a order (stands a a_low) in
            let g = finding a line a_low s.front s.back s.whole ra ta in
            subst (λ o. is_before o a b ≡ true) (sym s.whole)
            (before_at s.front s.back a b (not_front a s.front s.back s.whole)
            ∙ in_back s.front s.back s.whole g.1 g.2.0.before g.2.1)
          where
            in_back :
                (p q : List ℕ) → order ≡ p ++ a ∷ q → (f : Source)
                → ((j : ℕ) → wr line j ≡ true → j < commits_seen f
                → stamp_at first txs j < (transaction_named txs a).stamp)
                → f ≡ committed_source (last_of (filter (wr line) p)) → contains_number b q ≡ true
            in_back p q cut f sooner e =
                by_cases (or_cases (contains_number b p) (contains_number b (a ∷ q))
                (sym (has_append b p (a ∷ q)) ∙ in_whole))
              where
                in_whole : contains_number b (p ++ a ∷ q) ≡ true
                in_whole = subst (λ o. contains_number b o ≡ true) cut (stands b b_low)

                not_sooner : contains_number b p ≡ true → ⊥
                not_sooner h =
                    let k = filter_has (wr line) b p h tb in
                    let j = last_some (filter (wr line) p) b k in
                    let z : commits_seen f ≡ suc j.0 =
                    ap commits_seen (e ∙ ap committed_source j.1) in
                    let r = rising_left (filter (wr line) p) (filter (wr line) (a ∷ q))
                    (parts_rise line a p q cut) in
                    let top : b ≤ j.0 = last_is_greatest (filter (wr line) p) j.0 b r j.1 k in
                    let u : stamp_at first txs b < (transaction_named txs a).stamp =
                    sooner b tb (omega arith) in
                    let t = bit_earlier a b a_low b_low time in
                    omega (arith, t.1, S.warps a a_low, S.warps b b_low)

                by_cases : (contains_number b p ≡ true) ⊎ ((eqb a b || contains_number b q) ≡ true)
                    → contains_number b q ≡ true
                by_cases (inl h) = absurd (not_sooner h)
                by_cases (inr h) = sym (ap (λ c. c || contains_number b q) (ne_eqb a b apart)) ∙ h

        stands_first :
            ConflictKind (wr line a) (is_read (transaction_named txs a).actions line) (wr line b)
            (is_read (transaction_named txs b).actions line)
            → is_before order a b ≡ true
        stands_first (two_writers ta tb) = both_write ta tb
        stands_first (writer_and_reader ta tb rb) = writer_first ta tb rb
        stands_first (reader_and_writer ta ra tb) = reader_first ta ra tb

      in_logical_order : IsInLogicalOrder txs order
      in_logical_order a b a_low b_low conflict time =
          stands_first a b a_low b_low conflict.0 time
          (conflict_kind (wr conflict.0 a) (is_read (transaction_named txs a).actions conflict.0)
          (wr conflict.0 b)
          (is_read (transaction_named txs b).actions conflict.0) conflict.1)

-- The accounts agree exactly in the orders that keep conflicting transactions in logical time.
pub accounts_agree :
    (first : Lines) (txs : List Transaction) (memory : Lines) → Serial first txs memory
    → (order : List ℕ) → EachOnce order (length txs)
    → (EqualAccounts (length txs) (account_of txs memory) (serial_account first txs order)
    → IsInLogicalOrder txs order)
    × (IsInLogicalOrder txs order
    → EqualAccounts (length txs) (account_of txs memory) (serial_account first txs order))
accounts_agree first txs memory S order each =
    (in_logical_order first txs memory S order each, equal first txs memory S order each)
