-- The two accounts of a run: what its committed transactions did by the machine's answers, and what
-- they do when each is executed alone, one after another, in a chosen order. The run is
-- serializable in that order exactly if the two are equal.
use Rattle.std.specs.Prelude.{◌≡◌, ℕ, ◌<◌, cond, List, [], ◌∷◌, ◌++◌, Some, None, fold, Option}
use Rattle.std.specs.Prelude.{◌==◌, nat_lt}
use Rattle.memory.specs.Lines.{Lines}
use Rattle.rules.specs.Lists.{last_of, occurrences}
use Rattle.rules.specs.Steps.{lines_after_stores}
use Rattle.rules.specs.Transactions.{last_own_store, is_written, transaction_stores}
use Rattle.rules.specs.Transactions.{transaction_named, writers, committed_source, Source, Action}
use Rattle.rules.specs.Transactions.{Transaction}
use Rattle.rules.specs.Transactions.{own_store, loaded, stored}

-- What a load got: its value, and where it found it.
pub record LoadResult : Type 0 where
  pub value : Option ℕ
  pub source : Source

-- What the loads of each committed transaction got, latest first; the last value of each line; and
-- the writers of each line.
pub record Account : Type 0 where
  pub loads : ℕ → List LoadResult
  pub last_values : Lines
  pub line_writers : ℕ → List ℕ

-- What a transaction's loads got in the run.
abbrev pub load_results : List Action → List LoadResult
load_results [] = []
load_results (loaded d ∷ before) =
    record { value = Some d.value; source = d.source } ∷ load_results before
load_results (stored s ∷ before) = load_results before

-- The machine's account: the recorded loads, and the memory after the run.
abbrev pub account_of : List Transaction → Lines → Account
account_of txs memory =
    record {
      loads = λ name. load_results (transaction_named txs name).actions;
      last_values = memory;
      line_writers = writers txs;
    }

-- What a load gets when its transaction is executed alone: the transaction's own last store to the
-- line, or else the line's value and last writer.
abbrev pub load_result_alone : Option ℕ → Option ℕ → Source → LoadResult
load_result_alone (Some mine) value source = record { value = Some mine; source = own_store }
load_result_alone None value source = record { value = value; source = source }

-- What a transaction's loads get when it is executed alone, after the transactions of an account.
abbrev pub load_results_alone : Account → List Action → List LoadResult
load_results_alone a [] = []
load_results_alone a (loaded d ∷ before) =
    load_result_alone (last_own_store before d.line) (a.last_values d.line)
    (committed_source (last_of (a.line_writers d.line)))
    ∷ load_results_alone a before
load_results_alone a (stored s ∷ before) = load_results_alone a before

-- The account after one more transaction is executed alone: its loads get their values, and then it
-- writes its stores in order and becomes a writer of their lines.
unfoldable pub account_after : List Transaction → Account → ℕ → Account
account_after txs a name =
    let actions = (transaction_named txs name).actions in
    record {
      loads = λ n. cond (n == name) (load_results_alone a actions) (a.loads n);
      last_values = lines_after_stores a.last_values (transaction_stores actions);
      line_writers = λ line. a.line_writers line ++ cond (is_written actions line) (name ∷ []) [];
    }

-- The account of all transactions executed alone, in an order, from the initial memory and with no
-- writers.
abbrev pub serial_account : Lines → List Transaction → List ℕ → Account
serial_account memory txs order =
    fold (account_after txs)
    (record { loads = λ n. []; last_values = memory; line_writers = λ line. [] }) order

-- The order contains each name below n once, and nothing else.
abbrev pub EachOnce : List ℕ → ℕ → Type 0
EachOnce order n = (name : ℕ) → occurrences name order ≡ cond (nat_lt name n) 1 0

-- Two accounts of n transactions are equal: the value and the source of every load, and the last
-- value and the writers of every line.
pub record EqualAccounts (n : ℕ) (a b : Account) : Type 0 where
  pub same_loads : (name : ℕ) → name < n → a.loads name ≡ b.loads name
  pub same_values : (line : ℕ) → a.last_values line ≡ b.last_values line
  pub same_writers : (line : ℕ) → a.line_writers line ≡ b.line_writers line
