-- The examples hold: each run is computed, and its accounts are compared.
use Rattle.std.proofs.Common.{◌≡◌, ℕ, zero, suc, ◌<◌, ◌≤◌, Bool, true, false, eqb, List, [], ◌∷◌}
use Rattle.std.proofs.Common.{length, Some, None, Option, sym, refl, ap, ◌∙◌, subst, arith, lit<}
use Rattle.std.proofs.Common.{lit≤}
use Rattle.std.proofs.lemmas.Bool.{both_ways, eqb-true, ne_eqb}
use Rattle.std.proofs.lemmas.Bool.Decides.{nat_tests}
use Rattle.memory.specs.Lines.{Lines, lines_with, word_lines}
use Rattle.book.specs.Exact.{exact}
use Rattle.rules.specs.declared.state.Access.TheVariants.{Read}
use Rattle.rules.specs.declared.state.Request.{Request}
use Rattle.rules.specs.Logs.{log_entry}
use Rattle.rules.specs.State.{MachineState, warp_row_of}
use Rattle.rules.specs.Queue.{request_of}
use Rattle.rules.specs.Serving.{served_on_free_line}
use Rattle.rules.specs.Ending.{after_withdrawal, after_settling, after_retry, after_turn_with}
use Rattle.rules.specs.Ending.{after_turns, without_lines, after_giving_up, after_end}
use Rattle.rules.specs.Steps.{step_by_verdict, with_request_queued, fetched_step}
use Rattle.rules.specs.Runs.{run_with_call}
use Rattle.rules.specs.Transactions.{committed_store, initial_memory, loaded, stored, load_action}
use Rattle.rules.specs.Transactions.{Transaction, is_written}
use Rattle.rules.specs.Ledger.{Ledger, ledger_of, ledger_after_event}
use Rattle.rules.specs.Account.{LoadResult, Account, account_after, serial_account, account_of}
use Rattle.rules.specs.Laws.{IsHolder, is_waiting_now, WaitsFor, Leads, free, onward}
use Rattle.rules.specs.Examples.{Sample, sample_run, sample_ledger, sample_commits}
use Rattle.rules.specs.Examples.{TransactionsAgreeInOneOrder, RunAgreesInOneOrder, two_writers}
use Rattle.rules.specs.Examples.{TwoWriters, writer_reader, WriterThenReader, reader_writer}
use Rattle.rules.specs.Examples.{ReaderThenWriter}
use Rattle.rules.specs.Examples.{same_stamp, SameStamp, SettledLoadSeesCommit, chain, ChainOfThree}
use Rattle.rules.specs.Examples.{lost_holder, wrong_run}
use Rattle.rules.specs.Examples.{StampKeptUntilFetched, EarlyStampBreaksWaits}
use Rattle.rules.specs.Examples.{LostUpdateUnexplained}
use Rattle.rules.proofs.SerialAccount.{writers_alone}

-- A fact for each of two names.
for_each_of_two : (P : ℕ → Type 0) → P 0 → P 1 → (n : ℕ) → n < 2 → P n
for_each_of_two P a b zero l = a
for_each_of_two P a b (suc zero) l = b
for_each_of_two P a b (suc (suc n)) l = absurd (omega arith)

-- The value of the first of some loads.
abbrev first_value : List LoadResult → Option ℕ
first_value [] = None
first_value (g ∷ rest) = g.value

seven_eight : ◌≡◌ {A = Option ℕ} (Some 7) (Some 8) → ⊥
seven_eight e = let z : ◌≡◌ {A = ℕ} 7 8 = cc in omega arith

seven_nine : ◌≡◌ {A = Option ℕ} (Some 7) (Some 9) → ⊥
seven_nine e = let z : ◌≡◌ {A = ℕ} 7 9 = cc in omega arith

pub settled_load_found : SettledLoadSeesCommit
unfolding run_with_call step_by_verdict served_on_free_line after_withdrawal after_settling
    after_retry after_turn_with after_turns without_lines after_giving_up after_end
    with_request_queued fetched_step ledger_after_event
settled_load_found = refl

-- The account before any transaction is executed alone.
abbrev nothing : Account
nothing = record { loads = λ n. []; last_values = word_lines (7 ∷ []); line_writers = λ line. [] }

-- A transaction's loads get the same alone as in the run.
abbrev SameLoads : List Transaction → Lines → List ℕ → ℕ → Type 0
SameLoads txs memory order n =
    (account_of txs memory).loads n ≡ (serial_account (word_lines (7 ∷ [])) txs order).loads n

-- What is shown of transactions and a memory that are written out holds of the run that gives them.
run_agrees :
    (s : Sample) (txs : List Transaction) (memory : Lines) (a b : ℕ) → sample_commits s ≡ txs
    → length txs ≡ 2
    → (sample_run s).machine.lines ≡ memory
    → TransactionsAgreeInOneOrder (word_lines s.values) txs memory a b
    → RunAgreesInOneOrder s a b
run_agrees s txs memory a b e n m h =
    record {
      commits_two = ap length e ∙ n;
      apart =
          subst (λ x. TransactionsAgreeInOneOrder (word_lines s.values) (sample_commits s) x a b)
          (sym m)
          (subst (λ x. TransactionsAgreeInOneOrder (word_lines s.values) x memory a b) (sym e) h);
    }

-- Two transactions store to one line.
abbrev two_writers_txs : List Transaction
two_writers_txs =
    record { stamp = 0; warp = 0; actions = stored (log_entry 0 8) ∷ [] }
    ∷ record { stamp = 5; warp = 1; actions = stored (log_entry 0 9) ∷ [] } ∷ []

abbrev two_writers_memory : Lines
two_writers_memory = lines_with (lines_with (word_lines (7 ∷ [])) 0 8) 0 9

two_writers_commits : sample_commits two_writers ≡ two_writers_txs
unfolding run_with_call step_by_verdict served_on_free_line after_turns without_lines
    after_giving_up after_end ledger_after_event
two_writers_commits = refl

two_writers_leaves : (sample_run two_writers).machine.lines ≡ two_writers_memory
unfolding run_with_call step_by_verdict served_on_free_line after_turns without_lines
    after_giving_up after_end ledger_after_event
two_writers_leaves = refl

two_writers_case :
    TransactionsAgreeInOneOrder (word_lines (7 ∷ [])) two_writers_txs two_writers_memory 0 1
unfolding account_after
two_writers_case =
    record {
      conflict = (0, refl);
      in_time = refl;
      agrees =
          record {
            same_loads = for_each_of_two (SameLoads two_writers_txs two_writers_memory (0 ∷ 1 ∷ []))
                refl refl;
            same_values = λ line. refl;
            same_writers =
                λ line.
                sym
                (writers_alone (word_lines (7 ∷ [])) two_writers_txs line (0 ∷ 1 ∷ []) nothing);
          };
      differs =
          λ e.
          let z : ◌≡◌ {A = List ℕ} (0 ∷ 1 ∷ []) (1 ∷ 0 ∷ []) = e.same_writers 0 in
          let y : ◌≡◌ {A = ℕ} 0 1 = cc in
          omega arith;
    }

pub two_writers_apart : TwoWriters
two_writers_apart =
    run_agrees two_writers two_writers_txs two_writers_memory 0 1
    two_writers_commits refl two_writers_leaves two_writers_case

-- One transaction stores to a line, and a later one loads it.
abbrev writer_reader_txs : List Transaction
writer_reader_txs =
    record { stamp = 0; warp = 0; actions = stored (log_entry 0 8) ∷ [] }
    ∷ record { stamp = 5; warp = 1; actions = loaded (load_action 0 8 (committed_store 0)) ∷ [] }
    ∷ []

abbrev writer_reader_memory : Lines
writer_reader_memory = lines_with (word_lines (7 ∷ [])) 0 8

writer_reader_commits : sample_commits writer_reader ≡ writer_reader_txs
unfolding run_with_call step_by_verdict served_on_free_line after_turns without_lines
    after_giving_up after_end ledger_after_event
writer_reader_commits = refl

writer_reader_leaves : (sample_run writer_reader).machine.lines ≡ writer_reader_memory
unfolding run_with_call step_by_verdict served_on_free_line after_turns without_lines
    after_giving_up after_end ledger_after_event
writer_reader_leaves = refl

writer_reader_case :
    TransactionsAgreeInOneOrder (word_lines (7 ∷ [])) writer_reader_txs writer_reader_memory 0 1
unfolding account_after
writer_reader_case =
    record {
      conflict = (0, refl);
      in_time = refl;
      agrees =
          record {
            same_loads = for_each_of_two
                (SameLoads writer_reader_txs writer_reader_memory (0 ∷ 1 ∷ [])) refl refl;
            same_values = λ line. refl;
            same_writers =
                λ line.
                sym
                (writers_alone (word_lines (7 ∷ [])) writer_reader_txs line (0 ∷ 1 ∷ []) nothing);
          };
      differs =
          λ e. seven_eight (sym (ap first_value (e.same_loads 1 (omega arith))));
    }

pub writer_reader_apart : WriterThenReader
writer_reader_apart =
    run_agrees writer_reader writer_reader_txs writer_reader_memory 0 1
    writer_reader_commits refl writer_reader_leaves writer_reader_case

-- One transaction loads a line, and a later one stores to it and commits first.
abbrev reader_writer_txs : List Transaction
reader_writer_txs =
    record { stamp = 5; warp = 1; actions = stored (log_entry 0 8) ∷ [] }
    ∷ record { stamp = 0; warp = 0; actions = loaded (load_action 0 7 initial_memory) ∷ [] } ∷ []

abbrev reader_writer_memory : Lines
reader_writer_memory = lines_with (word_lines (7 ∷ [])) 0 8

reader_writer_commits : sample_commits reader_writer ≡ reader_writer_txs
unfolding run_with_call step_by_verdict served_on_free_line after_turns without_lines
    after_giving_up after_end ledger_after_event
reader_writer_commits = refl

reader_writer_leaves : (sample_run reader_writer).machine.lines ≡ reader_writer_memory
unfolding run_with_call step_by_verdict served_on_free_line after_turns without_lines
    after_giving_up after_end ledger_after_event
reader_writer_leaves = refl

reader_writer_case :
    TransactionsAgreeInOneOrder (word_lines (7 ∷ [])) reader_writer_txs reader_writer_memory 1 0
unfolding account_after
reader_writer_case =
    record {
      conflict = (0, refl);
      in_time = refl;
      agrees =
          record {
            same_loads = for_each_of_two
                (SameLoads reader_writer_txs reader_writer_memory (1 ∷ 0 ∷ [])) refl refl;
            same_values = λ line. refl;
            same_writers =
                λ line.
                sym
                (writers_alone (word_lines (7 ∷ [])) reader_writer_txs line (1 ∷ 0 ∷ []) nothing);
          };
      differs =
          λ e. seven_eight (ap first_value (e.same_loads 1 (omega arith)));
    }

pub reader_writer_apart : ReaderThenWriter
reader_writer_apart =
    run_agrees reader_writer reader_writer_txs reader_writer_memory 1 0
    reader_writer_commits refl reader_writer_leaves reader_writer_case

-- One warp commits two transactions at one stamp.
abbrev same_stamp_txs : List Transaction
same_stamp_txs =
    record { stamp = 5; warp = 0; actions = loaded (load_action 0 7 initial_memory) ∷ [] }
    ∷ record { stamp = 5; warp = 0; actions = stored (log_entry 0 9) ∷ [] } ∷ []

abbrev same_stamp_memory : Lines
same_stamp_memory = lines_with (word_lines (7 ∷ [])) 0 9

same_stamp_commits : sample_commits same_stamp ≡ same_stamp_txs
unfolding run_with_call step_by_verdict served_on_free_line after_turns without_lines
    after_giving_up after_end ledger_after_event
same_stamp_commits = refl

same_stamp_leaves : (sample_run same_stamp).machine.lines ≡ same_stamp_memory
unfolding run_with_call step_by_verdict served_on_free_line after_turns without_lines
    after_giving_up after_end ledger_after_event
same_stamp_leaves = refl

same_stamp_case :
    TransactionsAgreeInOneOrder (word_lines (7 ∷ [])) same_stamp_txs same_stamp_memory 0 1
unfolding account_after
same_stamp_case =
    record {
      conflict = (0, refl);
      in_time = refl;
      agrees =
          record {
            same_loads = for_each_of_two (SameLoads same_stamp_txs same_stamp_memory (0 ∷ 1 ∷ []))
                refl refl;
            same_values = λ line. refl;
            same_writers =
                λ line.
                sym
                (writers_alone (word_lines (7 ∷ [])) same_stamp_txs line (0 ∷ 1 ∷ []) nothing);
          };
      differs =
          λ e. seven_nine (ap first_value (e.same_loads 0 (omega arith)));
    }

pub same_stamp_apart : SameStamp
same_stamp_apart =
    run_agrees same_stamp same_stamp_txs same_stamp_memory 0 1
    same_stamp_commits refl same_stamp_leaves same_stamp_case

pub lost_update_unexplained : LostUpdateUnexplained
unfolding account_after
lost_update_unexplained = (
  λ e. seven_eight (ap first_value (e.same_loads 1 (omega arith))),
  λ e. seven_nine (ap first_value (e.same_loads 0 (omega arith))),
)

-- A warp's transaction, if it has one, stored to the line.
abbrev stores_in : Option Transaction → ℕ → Bool
stores_in None line = false
stores_in (Some tx) line = is_written tx.actions line

-- If only four warps have transactions and three of them do not hold the line, the fourth is its
-- only holder.
four :
    (P : ℕ → Type 0) → P 0 → P 1 → P 2 → P 3 → ((v : ℕ) → 4 ≤ v → P v) → (v : ℕ) → P v
four P a b c d rest zero = a
four P a b c d rest (suc zero) = b
four P a b c d rest (suc (suc zero)) = c
four P a b c d rest (suc (suc (suc zero))) = d
four P a b c d rest (suc (suc (suc (suc v)))) = rest (suc (suc (suc (suc v)))) (omega arith)

only_holder :
    (l : Ledger) (line h : ℕ) → h < 4 → ((v : ℕ) → 4 ≤ v → l.current v ≡ None)
    → stores_in (l.current 0) line ≡ eqb 0 h → stores_in (l.current 1) line ≡ eqb 1 h
    → stores_in (l.current 2) line ≡ eqb 2 h → stores_in (l.current 3) line ≡ eqb 3 h
    → (v : ℕ) → IsHolder l line v → v ≡ h
only_holder l line h low no_more a b c d v o =
    eqb-true v h
    (sym (four (λ v. stores_in (l.current v) line ≡ eqb v h) a b c d beyond v)
    ∙ ap (λ t. stores_in t line) o.1 ∙ o.2)
  where
    beyond : (v : ℕ) → 4 ≤ v → stores_in (l.current v) line ≡ eqb v h
    beyond v high =
        ap (λ t. stores_in t line) (no_more v high) ∙ sym (ne_eqb v h (λ e. omega arith))

-- The transactions of the warps in the chain of waits.
chain_ends : (v : ℕ) → 4 ≤ v → (sample_ledger chain).current v ≡ None
unfolding run_with_call step_by_verdict served_on_free_line with_request_queued ledger_after_event
chain_ends v high = grind (arith, nat_tests)

-- Each of the three waits for the next.
waits_3 : WaitsFor (sample_run chain).machine (sample_ledger chain) 3 2
unfolding run_with_call step_by_verdict served_on_free_line with_request_queued ledger_after_event
waits_3 =
    record {
      waiting = refl;
      request = record { warp = 3; line = 2; access = Read };
      requested = refl;
      held = (record { stamp = 6; warp = 2; actions = stored (log_entry 2 1) ∷ [] }, refl, refl);
      only = only_holder (sample_ledger chain) 2 2 (omega arith) chain_ends refl refl refl refl;
      falls = lit< tt;
    }

waits_2 : WaitsFor (sample_run chain).machine (sample_ledger chain) 2 1
unfolding run_with_call step_by_verdict served_on_free_line with_request_queued ledger_after_event
waits_2 =
    record {
      waiting = refl;
      request = record { warp = 2; line = 1; access = Read };
      requested = refl;
      held = (record { stamp = 3; warp = 1; actions = stored (log_entry 1 1) ∷ [] }, refl, refl);
      only = only_holder (sample_ledger chain) 1 1 (omega arith) chain_ends refl refl refl refl;
      falls = lit< tt;
    }

waits_1 : WaitsFor (sample_run chain).machine (sample_ledger chain) 1 0
unfolding run_with_call step_by_verdict served_on_free_line with_request_queued ledger_after_event
waits_1 =
    record {
      waiting = refl;
      request = record { warp = 1; line = 0; access = Read };
      requested = refl;
      held = (record { stamp = 0; warp = 0; actions = stored (log_entry 0 1) ∷ [] }, refl, refl);
      only = only_holder (sample_ledger chain) 0 0 (omega arith) chain_ends refl refl refl refl;
      falls = lit< tt;
    }

free_0 : is_waiting_now (sample_run chain).machine 0 ≡ false
unfolding run_with_call step_by_verdict served_on_free_line with_request_queued
free_0 = refl

pub chain_of_three : ChainOfThree
chain_of_three = onward waits_3 (onward waits_2 (onward waits_1 (free free_0)))

-- A holder whose request was aborted keeps its stamp until it fetches the outcome.
holder_ends : (v : ℕ) → 4 ≤ v → (sample_ledger lost_holder).current v ≡ None
unfolding run_with_call step_by_verdict served_on_free_line after_withdrawal after_settling
    after_retry after_turn_with after_turns without_lines after_giving_up after_end
    with_request_queued ledger_after_event
holder_ends v high = grind (arith, nat_tests)

kept_3 : WaitsFor (sample_run lost_holder).machine (sample_ledger lost_holder) 3 2
unfolding run_with_call step_by_verdict served_on_free_line after_withdrawal after_settling
    after_retry after_turn_with after_turns without_lines after_giving_up after_end
    with_request_queued ledger_after_event
kept_3 =
    record {
      waiting = refl;
      request = record { warp = 3; line = 1; access = Read };
      requested = refl;
      held = (record { stamp = 5; warp = 2; actions = stored (log_entry 1 2) ∷ [] }, refl, refl);
      only = only_holder (sample_ledger lost_holder) 1 2
          (omega arith) holder_ends refl refl refl refl;
      falls = lit< tt;
    }

free_2 : is_waiting_now (sample_run lost_holder).machine 2 ≡ false
unfolding run_with_call step_by_verdict served_on_free_line after_withdrawal after_settling
    after_retry after_turn_with after_turns without_lines after_giving_up after_end
    with_request_queued
free_2 = refl

pub stamp_kept : StampKeptUntilFetched
stamp_kept = onward kept_3 (free free_2)

-- If it takes the next stamp before that, the warp that waits for it has the smaller stamp, and so
-- does not wait for a smaller one.
no_way_on :
    (m : MachineState exact) (l : Ledger) (w v steps : ℕ) (r : Request) → is_waiting_now m w ≡ true
    → request_of m.queue w ≡ Some r → IsHolder l r.line v
    → (warp_row_of m w).stamp ≤ (warp_row_of m v).stamp → Leads m l w steps → ⊥
no_way_on m l w v steps r with_request_queued asks holds above (free e) =
    both_ways (is_waiting_now m w) e with_request_queued
no_way_on m l w v steps r with_request_queued asks holds above (onward {h = h} s rest) =
    let same : s.request ≡ r = cc (asks, s.requested) in
    let there : v ≡ h = s.only v (subst (λ (q : Request). IsHolder l q.line v) (sym same) holds) in
    let falls : (warp_row_of m v).stamp < (warp_row_of m w).stamp =
    subst (λ u. (warp_row_of m u).stamp < (warp_row_of m w).stamp) (sym there) s.falls
    in
    omega arith

early_waits : is_waiting_now (wrong_run lost_holder).machine 3 ≡ true
unfolding run_with_call step_by_verdict served_on_free_line after_withdrawal after_settling
    after_retry after_turn_with after_turns without_lines after_giving_up after_end
    with_request_queued
early_waits = refl

early_asks :
    request_of (wrong_run lost_holder).machine.queue 3 ≡ Some
    (record { warp = 3; line = 1; access = Read })
unfolding run_with_call step_by_verdict served_on_free_line after_withdrawal after_settling
    after_retry after_turn_with after_turns without_lines after_giving_up after_end
    with_request_queued
early_asks = refl

early_holds : IsHolder (ledger_of (wrong_run lost_holder).events) 1 2
unfolding run_with_call step_by_verdict served_on_free_line after_withdrawal after_settling
    after_retry after_turn_with after_turns without_lines after_giving_up after_end
    with_request_queued ledger_after_event
early_holds = (record { stamp = 5; warp = 2; actions = stored (log_entry 1 2) ∷ [] }, refl, refl)

early_stamps :
    (warp_row_of (wrong_run lost_holder).machine 3).stamp ≤
    (warp_row_of (wrong_run lost_holder).machine 2).stamp
unfolding run_with_call step_by_verdict served_on_free_line after_withdrawal after_settling
    after_retry after_turn_with after_turns without_lines after_giving_up after_end
    with_request_queued
early_stamps = lit≤ tt

pub stamp_taken_early : EarlyStampBreaksWaits
stamp_taken_early h =
    let r = h 3 early_waits in
    no_way_on (wrong_run lost_holder).machine (ledger_of (wrong_run lost_holder).events) 3 2 r.0
    (record { warp = 3; line = 1; access = Read }) early_waits early_asks early_holds early_stamps
    r.1
