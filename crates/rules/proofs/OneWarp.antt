-- Each step of one warp keeps the invariant of a run: a load or a store that is served or waits, a
-- withdrawal, a begin and an end.
use Rattle.std.proofs.Common.{◌≡◌, ℕ, suc, ◌<◌, ◌≤◌, Bool, true, false, cond, ◌&&◌, eqb, ltb, ◌⊎◌}
use Rattle.std.proofs.Common.{List, [], ◌∷◌, ◌++◌, length, get_or, set, is_some, Some, None, fold}
use Rattle.std.proofs.Common.{Option, unwrap_or, sym, refl, ap, ◌∙◌, subst, inl, inr, ⊎_elim, arith}
use Rattle.std.proofs.Common.{length-set}
use Rattle.std.proofs.lemmas.Bool.{ne_eqb, and_from, not_from_false, lt-ltb, both_ways, cases_eq}
use Rattle.protocol.specs.Limits.{line_limit, log_limit, last_stamp}
use Rattle.protocol.specs.declared.answer.Outcome.{Outcome}
use Rattle.memory.specs.Lines.{Lines}
use Rattle.book.specs.Meaning.{is_reserved, can_add, Kind, Keeps, state_after_note}
use Rattle.book.specs.Meaning.{state_after_reserve, state_after_add, state_after_release}
use Rattle.book.specs.Time.{earlier}
use Rattle.rules.specs.declared.state.Access.{Access}
use Rattle.rules.specs.declared.state.Access.TheVariants.{Read, Write}
use Rattle.rules.specs.declared.state.Phase.{Phase}
use Rattle.rules.specs.declared.state.Phase.TheVariants.{Idle, Open, Waiting, Settled}
use Rattle.rules.specs.Lists.{contains_number}
use Rattle.rules.specs.Logs.{log_entry, last_stored, logged_lines}
use Rattle.rules.specs.State.{WarpRow, MachineState, idle_row, open_row, is_idle, is_waiting}
use Rattle.rules.specs.State.{row_in_phase, row_with_store, warp_row_of, time_of}
use Rattle.rules.specs.State.{with_lines, with_book, with_warp_row}
use Rattle.rules.specs.Access.{line_state}
use Rattle.rules.specs.Serving.{served_on_free_line, served_on_own_line, memory_value}
use Rattle.rules.specs.Ending.{after_withdrawal, after_settling, without_lines}
use Rattle.rules.specs.Steps.{with_request_queued, with_log_written, lines_after_stores}
use Rattle.rules.specs.Transactions.{loaded, stored, load_action, Transaction, last_own_store}
use Rattle.rules.specs.Transactions.{is_written, transaction_stores}
use Rattle.rules.specs.Transactions.{store_count}
use Rattle.rules.specs.Ledger.{Ledger, load_source, with_current, with_begun, without_current}
use Rattle.rules.specs.Ledger.{with_committed, ledger_after_outcome}
use Rattle.rules.proofs.History.{Holding, Released, without_holds}
use Rattle.rules.proofs.Ledgers.{hold_in, hold, hold_writes, History, begun, ended, load_own}
use Rattle.rules.proofs.Ledgers.{load_other, store_own}
use Rattle.rules.proofs.Ledgers.{store_new, all_lines_released, committed}
use Rattle.rules.proofs.BookCalls.{after_note, after_add, after_reservation, Freed, after_release}
use Rattle.rules.proofs.StoreCounts.{no_stores_unless_written, some_stores_if_written}
use Rattle.rules.proofs.StoreCounts.{store_count_at_most_stores, CountsAgree, counts_after_load}
use Rattle.rules.proofs.StoreCounts.{counts_after_store}
use Rattle.rules.proofs.StoreCounts.{counts_after_release, counts_after_begin}
use Rattle.rules.proofs.Verdicts.{MayGoOn, IsBlockedByOwner}
use Rattle.rules.proofs.Logs.{logged_own, has_logged, warp_row_put, warp_row_kept, request_push}
use Rattle.rules.proofs.Logs.{request_mine, request_left}
use Rattle.rules.proofs.Logs.{request_gone}
use Rattle.rules.proofs.Invariant.{Running, Matches, Blocked, Invariant, one_row_keeps}
use Rattle.rules.proofs.Invariant.{current_mine}
use Rattle.rules.proofs.Invariant.{current_other, holds_line}
use Rattle.rules.proofs.Invariant.{running, warp_is, warp_low, in_machine, action_keeps}

some_value : (o : Option ℕ) → is_some o ≡ true → o ≡ Some (unwrap_or o 0)
some_value None e = absurd (both_ways false refl e)
some_value (Some v) e = refl

own_or_none : (o : Option ℕ) → ((u : ℕ) → o ≡ Some u → ⊥) → o ≡ None
own_or_none None h = refl
own_or_none (Some u) h = absurd (h u refl)

-- A store has room in its log.
abbrev pub Room : Access → WarpRow → Type 0
Room Read warp_row = Unit {0}
Room (Write value) warp_row = length warp_row.log < log_limit

some_of : (o : Option ℕ) → is_some o ≡ true → (u : ℕ) × (o ≡ Some u)
some_of None e = absurd (both_ways false refl e)
some_of (Some u) e = (u, refl)

module _
    (k : Kind) (first : Lines) (keeps : Keeps k) (E : ℕ → ℕ → Type 0) (m : MachineState k)
    (l : Ledger)
    (I : Invariant k first E m l) (w : ℕ)
  where
    module _ (tx : Transaction) (mine : l.current w ≡ Some tx) where
      R : Running (warp_row_of m w) tx
      R = running k first keeps E m l I w tx mine

      low_w : w < 32
      low_w = warp_low k first keeps E m l I w tx mine

      inside : w < length m.warp_rows
      inside = in_machine k first keeps E m l I w tx mine

      same_time : (s : ℕ) → tx.stamp ≡ s → ◌≡◌ {A = ℕ × ℕ} (s, w) (tx.stamp, tx.warp)
      same_time s e = λ i. (sym e i, sym (warp_is k first keeps E m l I w tx mine) i)

      -- One more store in the log does not change the row's phase or stamp.
      abbrev after_log : ℕ → ℕ → ℕ → WarpRow
      after_log line v u = get_or (set m.warp_rows w (row_with_store (warp_row_of m w) line v)) u
          (idle_row 0)

      logs_phase : (line v u : ℕ) → (after_log line v u).phase ≡ (warp_row_of m u).phase
      logs_phase line v u =
          ⊎_elim
          (λ e.
          subst
          (λ x. (after_log line v x).phase ≡ (warp_row_of m x).phase)
          (sym e)
          (ap (λ (warp_row : WarpRow). warp_row.phase)
          (warp_row_put m w (row_with_store (warp_row_of m w) line v) inside)))
          (λ n. ap (λ (warp_row : WarpRow). warp_row.phase)
          (warp_row_kept m w (row_with_store (warp_row_of m w) line v) u n))
          (cases_eq u w)

      logs_stamp : (line v u : ℕ) → (after_log line v u).stamp ≡ (warp_row_of m u).stamp
      logs_stamp line v u =
          ⊎_elim
          (λ e.
          subst
          (λ x. (after_log line v x).stamp ≡ (warp_row_of m x).stamp)
          (sym e)
          (ap (λ (warp_row : WarpRow). warp_row.stamp)
          (warp_row_put m w (row_with_store (warp_row_of m w) line v) inside)))
          (λ n. ap (λ (warp_row : WarpRow). warp_row.stamp)
          (warp_row_kept m w (row_with_store (warp_row_of m w) line v) u n))
          (cases_eq u w)

      wrote :
          (value n : ℕ) → is_written tx.actions n ≡ true → (b : Bool)
          → is_some (cond b (Some value) (last_own_store tx.actions n)) ≡ true
      wrote value n x true = refl
      wrote value n x false = x

      logs_log :
          (line v : ℕ) → (after_log line v w).log ≡ transaction_stores tx.actions
          ++ log_entry line v ∷ []
      logs_log line v =
          ap (λ (warp_row : WarpRow). warp_row.log)
          (warp_row_put m w (row_with_store (warp_row_of m w) line v) inside)
          ∙ ap (λ log. log ++ log_entry line v ∷ []) R.same_log

      module _ (line : ℕ) (low : line < line_limit) (there : is_some (first line) ≡ true) where
        in_memory : is_some (m.lines line) ≡ true
        in_memory = I.history.core.same_lines line ∙ there

        -- The owner of a line has stored to it, and a request that must wait is blocked by the
        -- owner.
        own_value : k.owner m.book line ≡ Some w
            → (u : ℕ) × (last_own_store tx.actions line ≡ Some u)
        own_value owned =
            let h = I.history.core.owner_holds line w low owned in
            let q = holds_line k first l w line h.0 h.1 in
            let again = q.1 in
            let one : q.0 ≡ tx = cc in
            some_of (last_own_store tx.actions line)
            (subst (λ (t : Transaction). is_written t.actions line ≡ true) one q.2)

        -- The transaction has not stored to a line that nobody has reserved.
        not_own : k.owner m.book line ≡ None → last_own_store tx.actions line ≡ None
        not_own nobody = own_or_none (last_own_store tx.actions line) foreign
          where
            foreign : (u : ℕ) → last_own_store tx.actions line ≡ Some u → ⊥
            foreign u e =
                let h : hold l w line ≡ Some tx.stamp =
                ap (λ o. hold_in o line) mine ∙ hold_writes tx line (ap is_some e)
                in
                let a = (I.history.core.holder w line tx.stamp h).owns in
                let z : ◌≡◌ {A = ℕ} 0 1 = cc in
                omega arith

        pub stalled : IsBlockedByOwner (line_state k m.book line) (time_of m w)
            → Blocked l line (warp_row_of m w).stamp
        stalled stall =
            let h = I.history.core.owner_holds line stall.holder low stall.owned in
            record {
              by_warp = stall.holder;
              at_stamp = h.0;
              is_held = h.1;
              falls =
                  let a = (I.history.core.holder stall.holder line h.0 h.1).passes in
                  let b = stall.unwritten in
                  omega arith;
            }

        -- A load or a store on a line that nobody has reserved is served.
        pub serving_keeps :
            (access : Access) → MayGoOn access (line_state k m.book line) (time_of m w)
            → Invariant k first E (served_on_free_line m w line access).machine
            (ledger_after_outcome l w line access (served_on_free_line m w line access).outcome)
        unfolding served_on_free_line
        serving_keeps Read go =
            let note = after_note k keeps m.book I.good line
            (warp_row_of m w).stamp w low R.in_clock low_w in
            action_keeps k first keeps E m l I w tx mine
            (with_book m (state_after_note k m.book line (time_of m w)))
            (λ t. loaded (load_action line (memory_value m line) (load_source l.committed t line)))
            note.good
            (load_other k first l m.lines m.book I.history w tx mine
            (state_after_note k m.book line (time_of m w)) note.grown line (memory_value m line)
            (not_own go.nobody) (some_value (m.lines line) in_memory) low go.nobody
            (let a = go.unwritten in let b = R.same_stamp in omega arith)
            (subst (λ time.
            earlier (k.read_mark (state_after_note k m.book line ((warp_row_of m w).stamp, w))
            line) time ≡ false)
            (same_time (warp_row_of m w).stamp R.same_stamp) note.reaches))
            refl refl (λ v. refl) (λ v. refl) (λ v n. refl) (λ n x. x) R.same_log
            (counts_after_load k first m.lines l m.book
            (state_after_note k m.book line (time_of m w)) I.history I.counts
            note.counts w
            (λ t. loaded (load_action line (memory_value m line)
            (load_source l.committed t line)))
            (λ t n. refl) (λ t n. refl) tx mine)
        serving_keeps (Write value) go =
            let take =
            after_reservation k keeps m.book I.good line
            (warp_row_of m w).stamp w low R.in_clock low_w go.nobody
            go.storable.1 go.unwritten go.storable.0
            in
            action_keeps k first keeps E m l I w tx mine
            (with_warp_row (with_book m (state_after_reserve k m.book line (time_of m w))) w
            (row_with_store (warp_row_of m w) line value))
            (λ t. stored (log_entry line value)) take.good
            (store_new k first l m.lines m.book I.history w tx mine
            (state_after_reserve k m.book line (time_of m w)) line value
            (subst
            (λ t. Rattle.rules.proofs.History.Reserved k m.book
            (state_after_reserve k m.book line (time_of m w)) w line t)
            (sym R.same_stamp) take.took)
            in_memory)
            (length-set m.warp_rows w (row_with_store (warp_row_of m w) line value)) refl
            (logs_phase line value) (logs_stamp line value)
            (λ v n. warp_row_kept m w (row_with_store (warp_row_of m w) line value) v n)
            (λ n x. wrote value n x (eqb line n)) (logs_log line value)
            (counts_after_store k first m.lines l m.book
            (state_after_reserve k m.book line (time_of m w)) I.history I.counts
            w line value tx mine take.counts
            (take.one_store
            ∙ ap suc (sym
            (no_stores_unless_written tx.actions line (ap is_some (not_own go.nobody)))))
            (λ h o. let a = go.nobody in let z : ◌≡◌ {A = ℕ} 0 1 = cc in absurd (omega arith)))

        -- A load or a store on the warp's own line is served.
        pub own_serving_keeps :
            (access : Access) → Room access (warp_row_of m w) → k.owner m.book line ≡ Some w
            → Invariant k first E (served_on_own_line m w line access).machine
            (ledger_after_outcome l w line access (served_on_own_line m w line access).outcome)
        unfolding served_on_own_line
        own_serving_keeps Read room owned =
            let note = after_note k keeps m.book I.good line
            (warp_row_of m w).stamp w low R.in_clock low_w in
            let u = own_value owned in
            action_keeps k first keeps E m l I w tx mine
            (with_book m (state_after_note k m.book line (time_of m w)))
            (λ t.
            loaded
            (load_action line
            (unwrap_or (last_stored (warp_row_of m w).log line) (memory_value m line))
            (load_source l.committed t line)))
            note.good
            (load_own k first l m.lines m.book I.history w tx mine
            (state_after_note k m.book line (time_of m w)) note.grown line
            (unwrap_or (last_stored (warp_row_of m w).log line) (memory_value m line))
            (u.1
            ∙ ap Some
            (sym
            (ap (λ o. unwrap_or o (memory_value m line))
            (ap (λ log. last_stored log line) R.same_log ∙ logged_own tx.actions line ∙ u.1)))))
            refl refl (λ v. refl) (λ v. refl) (λ v n. refl) (λ n x. x) R.same_log
            (counts_after_load k first m.lines l m.book
            (state_after_note k m.book line (time_of m w)) I.history I.counts
            note.counts w
            (λ t.
            loaded
            (load_action line
            (unwrap_or (last_stored (warp_row_of m w).log line) (memory_value m line))
            (load_source l.committed t line)))
            (λ t n. refl) (λ t n. refl) tx mine)
        own_serving_keeps (Write value) room owned =
            let u = own_value owned in
            let wrote_it : is_written tx.actions line ≡ true = ap is_some u.1 in
            let tally = I.counts w tx mine line wrote_it in
            let some = some_stores_if_written tx.actions line wrote_it in
            let few : k.stores m.book line < log_limit =
            let a = store_count_at_most_stores tx.actions line in
            let b = ap length R.same_log in
            omega arith
            in
            let can : can_add k m.book line ≡ true =
            and_from (ltb line line_limit)
            (is_reserved k m.book line && ltb (k.stores m.book line) log_limit)
            (lt-ltb line line_limit low)
            (and_from (is_reserved k m.book line) (ltb (k.stores m.book line) log_limit)
            (not_from_false (eqb (k.stores m.book line) 0)
            (ne_eqb (k.stores m.book line) 0 (λ z. omega arith)))
            (lt-ltb (k.stores m.book line) log_limit few))
            in
            let add = after_add k keeps m.book I.good line can in
            action_keeps k first keeps E m l I w tx mine
            (with_warp_row (with_book m (state_after_add k m.book line)) w
            (row_with_store (warp_row_of m w) line value))
            (λ t. stored (log_entry line value)) add.good
            (store_own k first l m.lines m.book I.history w tx mine
            (state_after_add k m.book line) add.grown line
            value u.0 u.1)
            (length-set m.warp_rows w (row_with_store (warp_row_of m w) line value)) refl
            (logs_phase line value) (logs_stamp line value)
            (λ v n. warp_row_kept m w (row_with_store (warp_row_of m w) line value) v n)
            (λ n x. wrote value n x (eqb line n)) (logs_log line value)
            (counts_after_store k first m.lines l m.book
            (state_after_add k m.book line) I.history I.counts w line value
            tx
            mine add.counts (let a = add.one_more in omega arith)
            (λ h o. let z : h ≡ w = cc in z))

        -- A request joins the queue.
        pub waiting_keeps :
            (access : Access) → is_waiting (warp_row_of m w).phase ≡ false
            → IsBlockedByOwner (line_state k m.book line) (time_of m w)
            → Invariant k first E (with_request_queued m w line access) l
        unfolding with_request_queued
        waiting_keeps access calm stall =
            one_row_keeps k first E E m (with_request_queued m w line access) l l w I I.good
            I.history
            (length-set m.warp_rows w (row_in_phase (warp_row_of m w) Waiting))
            (λ v n. warp_row_kept m w (row_in_phase (warp_row_of m w) Waiting) v n) (λ v n. refl)
            (λ v n. request_push m.queue (record { warp = w; line = line; access = access }) v n)
            (λ v at t n b. b)
            (subst (λ warp_row. Matches warp_row (l.current w)) (sym put_warp_row)
            (subst (Matches (row_in_phase (warp_row_of m w) Waiting)) (sym mine)
            (record {
              busy = refl;
              same_stamp = R.same_stamp;
              same_log = R.same_log;
              in_clock = R.in_clock;
            })))
            (λ p.
            record {
              request = record { warp = w; line = line; access = access };
              requested = request_mine m.queue (record { warp = w; line = line; access = access })
                  (I.quiet w calm);
              line_low = low;
              there = there;
              blocked =
                  subst (λ (warp_row : WarpRow). E w line ⊎ Blocked l line warp_row.stamp)
                  (sym put_warp_row)
                  (inr (stalled stall));
            })
            (λ p.
            absurd
            (both_ways true
            (subst (λ (warp_row : WarpRow). is_waiting warp_row.phase ≡ false) put_warp_row p)
            refl)) I.counts
          where
            put_warp_row :
                get_or (set m.warp_rows w (row_in_phase (warp_row_of m w) Waiting)) w (idle_row 0)
                ≡ row_in_phase (warp_row_of m w) Waiting
            put_warp_row = warp_row_put m w (row_in_phase (warp_row_of m w) Waiting) inside

      -- A warp with a transaction changes its phase, and waits neither before nor after.
      module _ (p : Phase) (busy : is_idle p ≡ false) (still : is_waiting p ≡ false) where
        put_phase :
            get_or (set m.warp_rows w (row_in_phase (warp_row_of m w) p)) w
            (idle_row 0) ≡ row_in_phase (warp_row_of m w) p
        put_phase = warp_row_put m w (row_in_phase (warp_row_of m w) p) inside

        its_phase :
            Matches (get_or (set m.warp_rows w (row_in_phase (warp_row_of m w) p)) w (idle_row 0))
            (l.current w)
        its_phase =
            subst (λ warp_row. Matches warp_row (l.current w)) (sym put_phase)
            (subst (Matches (row_in_phase (warp_row_of m w) p)) (sym mine)
            (record {
              busy = busy;
              same_stamp = R.same_stamp;
              same_log = R.same_log;
              in_clock = R.in_clock;
            }))

        never_waits :
            is_waiting (get_or (set m.warp_rows w (row_in_phase (warp_row_of m w) p)) w
            (idle_row 0)).phase ≡ true → ⊥
        never_waits q =
            both_ways (is_waiting p) still
            (subst (λ (warp_row : WarpRow). is_waiting warp_row.phase ≡ true) put_phase q)

        pub phase_keeps :
            is_waiting (warp_row_of m w).phase ≡ false
            → Invariant k first E (with_warp_row m w (row_in_phase (warp_row_of m w) p)) l
        phase_keeps calm =
            one_row_keeps k first E E m (with_warp_row m w (row_in_phase (warp_row_of m w) p)) l l w
            I I.good I.history
            (length-set m.warp_rows w (row_in_phase (warp_row_of m w) p))
            (λ v n. warp_row_kept m w (row_in_phase (warp_row_of m w) p) v n) (λ v n. refl)
            (λ v n. refl)
            (λ v line t n b. b) its_phase (λ q. absurd (never_waits q))
            (λ q. I.quiet w calm) I.counts

      -- A request is withdrawn: it leaves the queue, and its warp is open again.
      module _ (E' : ℕ → ℕ → Type 0) (to : (v line : ℕ) → (v ≡ w → ⊥) → E v line → E' v line) where
        pub withdrawal_keeps : Invariant k first E' (after_withdrawal m w) l
        unfolding after_withdrawal
        withdrawal_keeps =
            one_row_keeps k first E E' m (after_withdrawal m w) l l w I I.good I.history
            (length-set m.warp_rows w (row_in_phase (warp_row_of m w) Open))
            (λ v n. warp_row_kept m w (row_in_phase (warp_row_of m w) Open) v n) (λ v n. refl)
            (λ v n. request_left m.queue w v n)
            (λ v line t n b. ⊎_elim (λ e. inl (to v line n e)) inr b)
            (its_phase Open refl refl) (λ q. absurd (never_waits Open refl refl q))
            (λ q. request_gone m.queue w)
            I.counts

      pub withdrawn_not_waiting : is_waiting (warp_row_of (after_withdrawal m w) w).phase ≡ false
      unfolding after_withdrawal
      withdrawn_not_waiting =
          ap (λ (warp_row : WarpRow). is_waiting warp_row.phase) (put_phase Open refl refl)

      abbrev pub freed_book : List ℕ → k.State
      freed_book gone = fold (state_after_release k) m.book gone

      -- Some lines that the transaction stored to are released, and its row is replaced.
      module _ (gone : List ℕ) (its : (line : ℕ) → contains_number line gone ≡ true
          → is_written tx.actions line ≡ true) where
        freed : Freed k keeps m.book (freed_book gone) gone
        freed = after_release k keeps m.book I.good gone

        was_held : (line : ℕ) → contains_number line gone ≡ true
            → (t : ℕ) × (hold l w line ≡ Some t)
        was_held line h =
            (tx.stamp, ap (λ o. hold_in o line) mine ∙ hold_writes tx line (its line h))

        pub released_lines : Released k (hold l) m.book (freed_book gone) w gone
        released_lines =
            record {
              its = was_held;
              stamps = freed.stamps;
              marks = freed.marks;
              released = freed.released_ones;
              others = freed.others;
            }

        pub counts_left :
            (o : Option Transaction)
            → ((t : Transaction) → o ≡ Some t → (line : ℕ) → is_written t.actions line ≡ true
            → k.stores (freed_book gone) line ≡ store_count t.actions line)
            → CountsAgree k (with_current l w o) (freed_book gone)
        counts_left o =
            counts_after_release k first m.lines l m.book
            (freed_book gone) I.history I.counts w gone o was_held freed.counts

        -- The warp holds what it held except these lines, and the others hold what they held.
        -- Requests blocked at these lines are exempt until they are retried.
        module _ (l' : Ledger) (holds : hold l' ≡ without_holds (hold l) w gone) where
          still_blocked :
              (v line t : ℕ) → E v line ⊎ Blocked l line t
              → (E v line ⊎ (contains_number line gone ≡ true)) ⊎ Blocked l' line t
          still_blocked v line t (inl e) = inl (inl e)
          still_blocked v line t (inr b) = step (contains_number line gone) refl
            where
              flat : (c : Bool) → (c && false) ≡ false
              flat true = refl
              flat false = refl

              step : (c : Bool) → contains_number line gone ≡ c
                  → (E v line ⊎ (contains_number line gone ≡ true)) ⊎ Blocked l' line t
              step true q = inl (inr q)
              step false q =
                  inr
                  (record {
                    by_warp = b.by_warp;
                    at_stamp = b.at_stamp;
                    is_held =
                        ap (λ (H : Holding). H b.by_warp line) holds
                        ∙ ap (λ c. cond c None (hold l b.by_warp line))
                        (ap (λ c. eqb b.by_warp w && c) q ∙ flat (eqb b.by_warp w))
                        ∙ b.is_held;
                    falls = b.falls;
                  })

          pub release_keeps :
              (ls : Lines) (warp_row : WarpRow) → is_waiting (warp_row_of m w).phase ≡ false
              → is_waiting warp_row.phase ≡ false → Matches warp_row (l'.current w)
              → ((v : ℕ) → (v ≡ w → ⊥) → l'.current v ≡ l.current v)
              → History k first l' ls (freed_book gone) → CountsAgree k l' (freed_book gone)
              → Invariant k first (λ v line. E v line ⊎ (contains_number line gone ≡ true))
              (without_lines (with_lines m ls) w warp_row gone) l'
          unfolding without_lines
          release_keeps ls warp_row calm still match others history counts =
              one_row_keeps k first E (λ v line. E v line ⊎ (contains_number line gone ≡ true)) m
              (without_lines (with_lines m ls) w warp_row gone) l l' w I freed.good history
              (length-set m.warp_rows w warp_row) (λ v n. warp_row_kept m w warp_row v n) others
              (λ v n. refl)
              (λ v line t n b. still_blocked v line t b)
              (subst (λ r. Matches r (l'.current w)) (sym put_row) match)
              (λ p.
              absurd
              (both_ways (is_waiting warp_row.phase) still
              (subst (λ (r : WarpRow). is_waiting r.phase ≡ true) put_row p)))
              (λ p. I.quiet w calm) counts
            where
              put_row : get_or (set m.warp_rows w warp_row) w (idle_row 0) ≡ warp_row
              put_row = warp_row_put m w warp_row inside

      -- The transaction ends, with or without a commit, and releases the lines that its log stores
      -- to.
      abbrev pub its_lines : List ℕ
      its_lines = logged_lines (warp_row_of m w).log

      logged_writes : (line : ℕ) → contains_number line its_lines ≡ is_written tx.actions line
      logged_writes line = ap (λ log. contains_number line (logged_lines log)) R.same_log
          ∙ has_logged tx.actions line

      writes_logged : (line : ℕ) → contains_number line its_lines ≡ true
          → is_written tx.actions line ≡ true
      writes_logged line h = sym (logged_writes line) ∙ h

      all_logged : (line t : ℕ) → hold l w line ≡ Some t → contains_number line its_lines ≡ true
      all_logged line t e =
          let q = holds_line k first l w line t e in
          let again = q.1 in
          let one : q.0 ≡ tx = cc in
          logged_writes line ∙ subst (λ (u : Transaction). is_written u.actions line ≡ true) one q.2

      logged_lines_released : Released k (hold l) m.book (freed_book its_lines) w its_lines
      logged_lines_released = released_lines its_lines writes_logged

      no_holds_left : hold (without_current l w) ≡ without_holds (hold l) w its_lines
      no_holds_left =
          all_lines_released k first l m.lines m.book I.history w its_lines
          (freed_book its_lines) logged_lines_released
          all_logged

      module _ (stamp : ℕ) (calm : is_waiting (warp_row_of m w).phase ≡ false) where
        all_gone :
            (l' : Ledger) → hold l' ≡ without_holds (hold l) w its_lines → l'.current w ≡ None
            → ((v : ℕ) → (v ≡ w → ⊥) → l'.current v ≡ l.current v) → (ls : Lines)
            → History k first l' ls (freed_book its_lines)
            → CountsAgree k l' (freed_book its_lines)
            → Invariant k first (λ v line. E v line ⊎ (contains_number line its_lines ≡ true))
            (without_lines (with_lines m ls) w (idle_row stamp) its_lines) l'
        all_gone l' holds none others ls history counts =
            release_keeps its_lines writes_logged l' holds ls (idle_row stamp) calm refl
            (subst (Matches (idle_row stamp)) (sym none) refl) others history counts

        no_counts_left : CountsAgree k (without_current l w) (freed_book its_lines)
        no_counts_left =
            counts_left its_lines writes_logged None
            (λ t e line x. let z : ◌≡◌ {A = ℕ} 0 1 = cc in absurd (omega arith))

        pub ends_keep :
            Invariant k first (λ v line. E v line ⊎ (contains_number line its_lines ≡ true))
            (without_lines m w (idle_row stamp) its_lines)
            (without_current l w)
        ends_keep =
            all_gone (without_current l w) no_holds_left (current_mine k first l w None)
            (λ v n. current_other k first l w None v n) m.lines
            (ended k first l m.lines m.book I.history w its_lines
            (freed_book its_lines) logged_lines_released
            all_logged)
            no_counts_left

        pub commits_keep :
            Invariant k first (λ v line. E v line ⊎ (contains_number line its_lines ≡ true))
            (without_lines (with_log_written m w) w (idle_row stamp) its_lines) (with_committed l w)
        commits_keep =
            all_gone (with_committed l w) no_holds_left (current_mine k first l w None)
            (λ v n. current_other k first l w None v n)
            (lines_after_stores m.lines (warp_row_of m w).log)
            (subst
            (λ log. History k first (with_committed l w) (lines_after_stores m.lines log)
            (freed_book its_lines))
            (sym R.same_log)
            (committed k first l m.lines m.book I.history w tx mine its_lines (freed_book its_lines)
            logged_lines_released all_logged))
            no_counts_left

    -- A transaction begins.
    pub begin_keeps :
        w < length m.warp_rows → is_idle (warp_row_of m w).phase ≡ true
        → (warp_row_of m w).stamp ≤ last_stamp
        → Invariant k first E (with_warp_row m w (open_row (warp_row_of m w).stamp))
        (with_begun l w (warp_row_of m w).stamp)
    begin_keeps low idle clock =
        one_row_keeps k first E E m (with_warp_row m w (open_row (warp_row_of m w).stamp)) l
        (with_begun l w (warp_row_of m w).stamp) w I I.good
        (begun k first l m.lines m.book I.history w none (let a = I.size in omega arith)
        (warp_row_of m w).stamp)
        (length-set m.warp_rows w (open_row (warp_row_of m w).stamp))
        (λ v n. warp_row_kept m w (open_row (warp_row_of m w).stamp) v n)
        (λ v n. current_other k first l w (Some new) v n) (λ v n. refl)
        (λ v line t n b. kept v line t b)
        (subst (λ warp_row. Matches warp_row ((with_begun l w (warp_row_of m w).stamp).current w))
        (sym put_warp_row)
        (subst (Matches (open_row (warp_row_of m w).stamp))
        (sym (current_mine k first l w (Some new)))
        (record { busy = refl; same_stamp = refl; same_log = refl; in_clock = clock })))
        (λ p.
        absurd
        (both_ways false refl
        (subst (λ (warp_row : WarpRow). is_waiting warp_row.phase ≡ true) put_warp_row p)))
        (λ p. I.quiet w (calm (warp_row_of m w).phase idle))
        (counts_after_begin k l m.book I.counts w (warp_row_of m w).stamp)
      where
        new : Transaction
        new = record { stamp = (warp_row_of m w).stamp; warp = w; actions = [] }

        put_warp_row :
            get_or (set m.warp_rows w (open_row (warp_row_of m w).stamp)) w (idle_row 0)
            ≡ open_row (warp_row_of m w).stamp
        put_warp_row = warp_row_put m w (open_row (warp_row_of m w).stamp) low

        none : l.current w ≡ None
        none = step (l.current w) (I.warp_rows w)
          where
            step : (o : Option Transaction) → Matches (warp_row_of m w) o → o ≡ None
            step None p = refl
            step (Some tx) p = absurd (both_ways (is_idle (warp_row_of m w).phase) p.busy idle)

        calm : (p : Phase) → is_idle p ≡ true → is_waiting p ≡ false
        calm Idle e = refl
        calm Open e = refl
        calm Waiting e = sym e
        calm (Settled outcome) e = refl

        kept :
            (v line t : ℕ) → E v line ⊎ Blocked l line t
            → E v line ⊎ Blocked (with_begun l w (warp_row_of m w).stamp) line t
        kept v line t (inl e) = inl e
        kept v line t (inr b) =
            inr
            (record {
              by_warp = b.by_warp;
              at_stamp = b.at_stamp;
              is_held =
                  ap (λ o. hold_in o line)
                  (current_other k first l w (Some new) b.by_warp
                  (λ e.
                  let q = holds_line k first l b.by_warp line b.at_stamp b.is_held in
                  let again : l.current w ≡ Some q.0 = ap l.current (sym e) ∙ q.1 in
                  let z : ◌≡◌ {A = ℕ} 0 1 = cc none in
                  omega arith))
                  ∙ b.is_held;
              falls = b.falls;
            })

-- A request is settled: it is withdrawn, and its warp has an outcome to fetch.
pub settling_keeps :
    (k : Kind) (first : Lines) (keeps : Keeps k) (E : ℕ → ℕ → Type 0) (m : MachineState k)
    (l : Ledger)
    (I : Invariant k first E m l) (w : ℕ) (tx : Transaction) → l.current w ≡ Some tx
    → (E' : ℕ → ℕ → Type 0)
    (outcome : Outcome) → ((v line : ℕ) → (v ≡ w → ⊥) → E v line → E' v line)
    → Invariant k first E' (after_settling m w outcome) l
unfolding after_settling
settling_keeps k first keeps E m l I w tx mine E' outcome to =
    phase_keeps k first keeps E' (after_withdrawal m w) l
    (withdrawal_keeps k first keeps E m l I w tx mine E' to) w tx mine
    (Settled outcome) refl refl (withdrawn_not_waiting k first keeps E m l I w tx mine)
