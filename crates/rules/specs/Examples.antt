-- The laws reject wrong machines, by example: small runs over the exact book.
use Rattle.std.specs.Prelude.{◌≡◌, ℕ, true, List, [], ◌∷◌, map, length, fold}
use Rattle.protocol.specs.declared.call.Call.{Call}
use Rattle.memory.specs.Lines.{Lines, word_lines}
use Rattle.book.specs.Exact.{exact, exact_new}
use Rattle.protocol.specs.declared.answer.Outcome.TheVariants.{Value, Stored, Gone as OutcomeGone}
use Rattle.rules.specs.declared.state.Phase.{Phase}
use Rattle.rules.specs.declared.state.Phase.TheVariants.{Idle, Open, Waiting, Settled}
use Rattle.rules.specs.State.{WarpRow, MachineState}
use Rattle.rules.specs.Queue.{product_policy}
use Rattle.rules.specs.Making.{new_machine}
use Rattle.rules.specs.Runs.{Run, run_with_call}
use Rattle.rules.specs.Logs.{log_entry}
use Rattle.rules.specs.Transactions.{committed_store, initial_memory, loaded, stored, load_action}
use Rattle.rules.specs.Transactions.{Transaction}
use Rattle.rules.specs.Ledger.{Ledger, ledger_of}
use Rattle.rules.specs.Account.{account_of, serial_account, EqualAccounts}
use Rattle.rules.specs.LogicalTime.{is_earlier, Conflict}
use Rattle.rules.specs.Laws.{Leads, WaitsEnd}
use Rattle.rules.specs.Worked.{begin_by, load_by, store_by, commit_by, fetch_by, exact_run}

-- A run to look at: its first stamps, its first line values and its calls.
pub record Sample : Type 0 where
  pub stamps : List ℕ
  pub values : List ℕ
  pub calls : List Call

-- The run of a sample.
abbrev pub sample_run : Sample → Run exact
sample_run s = exact_run s.stamps s.values s.calls

-- The ledger of its run.
abbrev pub sample_ledger : Sample → Ledger
sample_ledger s = ledger_of (sample_run s).events

-- The transactions that its run commits.
abbrev pub sample_commits : Sample → List Transaction
sample_commits s = (sample_ledger s).committed

-- Two transactions, between an initial and a final memory, conflict. The first is earlier in
-- logical time, and the accounts are equal only if it is executed first.
pub record TransactionsAgreeInOneOrder (initial : Lines) (txs : List Transaction) (final : Lines)
    (a b : ℕ) : Type 0 where
  pub conflict : Conflict txs a b
  pub in_time : is_earlier txs a b ≡ true
  pub agrees : EqualAccounts 2 (account_of txs final) (serial_account initial txs (a ∷ b ∷ []))
  pub differs : EqualAccounts 2 (account_of txs final) (serial_account initial txs (b ∷ a ∷ [])) → ⊥

-- This holds for the two transactions that a run commits.
pub record RunAgreesInOneOrder (s : Sample) (a b : ℕ) : Type 0 where
  pub commits_two : length (sample_commits s) ≡ 2
  pub apart : TransactionsAgreeInOneOrder (word_lines s.values) (sample_commits s)
      (sample_run s).machine.lines a b

-- Two transactions store to one line.
abbrev pub two_writers : Sample
two_writers =
    record {
      stamps = 0 ∷ 5 ∷ [];
      values = 7 ∷ [];
      calls = begin_by 0 ∷ store_by 0 0 8 ∷ commit_by 0 ∷ begin_by 1 ∷ store_by 1 0 9 ∷ commit_by 1
          ∷ [];
    }

-- They must be executed in the order of logical time.
abbrev pub TwoWriters : Type 0
TwoWriters = RunAgreesInOneOrder two_writers 0 1

-- One transaction stores to a line, and a later one loads it.
abbrev pub writer_reader : Sample
writer_reader =
    record {
      stamps = 0 ∷ 5 ∷ [];
      values = 7 ∷ [];
      calls = begin_by 0 ∷ store_by 0 0 8 ∷ commit_by 0 ∷ begin_by 1 ∷ load_by 1 0 ∷ commit_by 1
          ∷ [];
    }

-- The writer must be executed first.
abbrev pub WriterThenReader : Type 0
WriterThenReader = RunAgreesInOneOrder writer_reader 0 1

-- One transaction loads a line, and a later one stores to it and commits first.
abbrev pub reader_writer : Sample
reader_writer =
    record {
      stamps = 0 ∷ 5 ∷ [];
      values = 7 ∷ [];
      calls = begin_by 0 ∷ begin_by 1 ∷ load_by 0 0 ∷ store_by 1 0 8 ∷ commit_by 1 ∷ commit_by 0
          ∷ [];
    }

-- The reader must be executed first: logical time decides, and not the order of the commits.
abbrev pub ReaderThenWriter : Type 0
ReaderThenWriter = RunAgreesInOneOrder reader_writer 1 0

-- One warp commits two transactions at one stamp.
abbrev pub same_stamp : Sample
same_stamp =
    record {
      stamps = 5 ∷ [];
      values = 7 ∷ [];
      calls = begin_by 0 ∷ load_by 0 0 ∷ commit_by 0 ∷ begin_by 0 ∷ store_by 0 0 9 ∷ commit_by 0
          ∷ [];
    }

-- They must be executed in the order of their commits.
abbrev pub SameStamp : Type 0
SameStamp = RunAgreesInOneOrder same_stamp 0 1

-- A load waits for a commit.
abbrev pub settled_load : Sample
settled_load =
    record {
      stamps = 0 ∷ 3 ∷ [];
      values = 7 ∷ [];
      calls = begin_by 0 ∷ begin_by 1 ∷ store_by 0 0 8 ∷ load_by 1 0 ∷ commit_by 0 ∷ fetch_by 1
          ∷ commit_by 1 ∷ [];
    }

-- The load reads the value of that commit.
abbrev pub SettledLoadSeesCommit : Type 0
SettledLoadSeesCommit =
    sample_commits settled_load
    ≡ record { stamp = 0; warp = 0; actions = stored (log_entry 0 8) ∷ [] }
    ∷ record { stamp = 3; warp = 1; actions = loaded (load_action 0 8 (committed_store 0)) ∷ [] }
    ∷ []

-- Three warps wait in a chain: warp 3 for warp 2, warp 2 for warp 1, and warp 1 for warp 0, which
-- does not wait.
abbrev pub chain : Sample
chain =
    record {
      stamps = 0 ∷ 3 ∷ 6 ∷ 9 ∷ [];
      values = 7 ∷ 7 ∷ 7 ∷ [];
      calls =
          begin_by 0 ∷ begin_by 1 ∷ begin_by 2 ∷ begin_by 3
          ∷ store_by 0 0 1 ∷ store_by 1 1 1 ∷ store_by 2 2 1
          ∷ load_by 1 0 ∷ load_by 2 1 ∷ load_by 3 2 ∷ [];
    }

-- Three steps lead from warp 3 to a warp that does not wait.
abbrev pub ChainOfThree : Type 0
ChainOfThree = Leads (sample_run chain).machine (sample_ledger chain) 3 3

-- A wrong machine: a warp whose request is aborted takes its next stamp at once, while it still
-- holds lines, and not when it fetches the outcome. This is its stamp.
abbrev pub next_stamp_taken : Phase → ℕ → ℕ
next_stamp_taken Idle stamp = stamp
next_stamp_taken Open stamp = stamp
next_stamp_taken Waiting stamp = stamp
next_stamp_taken (Settled (Value value)) stamp = stamp
next_stamp_taken (Settled Stored) stamp = stamp
next_stamp_taken (Settled (OutcomeGone cause next)) stamp = next

-- The row of a warp that has taken its next stamp early.
abbrev pub row_with_stamp_taken : WarpRow → WarpRow
row_with_stamp_taken warp_row =
    record warp_row { stamp = next_stamp_taken warp_row.phase warp_row.stamp }

-- The wrong machine, where every warp does so.
abbrev pub with_stamps_taken : MachineState exact → MachineState exact
with_stamps_taken m = record m { warp_rows = map row_with_stamp_taken m.warp_rows }

-- A run of the wrong machine with one more call.
abbrev pub wrong_run_with_call : Run exact → Call → Run exact
wrong_run_with_call r call =
    let right = run_with_call (product_policy exact) r call in
    record right { machine = with_stamps_taken right.machine }

-- The wrong machine's run of a sample.
abbrev pub wrong_run : Sample → Run exact
wrong_run s =
    let first = new_machine exact (word_lines s.values) exact_new s.stamps in
    fold wrong_run_with_call (record { machine = first; events = [] }) s.calls

-- Warps 1 and 2 wait at stamp 5 for warp 0's line, and warp 3 waits at stamp 6 for a line of warp
-- 2. Warp 0 commits: warp 1 gets the line, and the load of warp 2 is aborted with the next stamp 7.
abbrev pub lost_holder : Sample
lost_holder =
    record {
      stamps = 0 ∷ 5 ∷ 5 ∷ 6 ∷ [];
      values = 7 ∷ 7 ∷ [];
      calls =
          begin_by 0 ∷ begin_by 1 ∷ begin_by 2 ∷ begin_by 3
          ∷ store_by 0 0 1 ∷ store_by 2 1 2
          ∷ store_by 1 0 3 ∷ load_by 2 0 ∷ load_by 3 1
          ∷ commit_by 0 ∷ [];
    }

-- On the right machine one step leads from warp 3 to a warp that does not wait.
abbrev pub StampKeptUntilFetched : Type 0
StampKeptUntilFetched = Leads (sample_run lost_holder).machine (sample_ledger lost_holder) 3 1

-- The wrong machine breaks the law of waits: warp 3 waits for a warp with a later stamp.
abbrev pub EarlyStampBreaksWaits : Type 0
EarlyStampBreaksWaits =
    WaitsEnd (wrong_run lost_holder).machine (ledger_of (wrong_run lost_holder).events) → ⊥

-- What a wrong machine might commit, a lost update: two transactions both loaded 7, and both
-- stored.
abbrev pub lost_update : List Transaction
lost_update =
    record {
      stamp = 0;
      warp = 0;
      actions = stored (log_entry 0 8)
          ∷ loaded (load_action 0 7 initial_memory) ∷ [];
    }
    ∷ record {
      stamp = 0;
      warp = 1;
      actions = stored (log_entry 0 9)
          ∷ loaded (load_action 0 7 initial_memory) ∷ [];
    } ∷ []

-- An order explains these transactions: executed alone in it, they give their account.
abbrev pub Explains : List ℕ → Type 0
Explains order =
    EqualAccounts 2 (account_of lost_update (word_lines (9 ∷ [])))
    (serial_account (word_lines (7 ∷ [])) lost_update order)

-- Neither order explains the lost update.
abbrev pub LostUpdateUnexplained : Type 0
LostUpdateUnexplained = (Explains (0 ∷ 1 ∷ []) → ⊥) × (Explains (1 ∷ 0 ∷ []) → ⊥)
