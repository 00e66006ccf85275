-- Transactions: what they did, and where each load found its value.
use Rattle.std.specs.Prelude.{ℕ, ◌+◌, Bool, false, cond, ◌||◌, List, [], ◌∷◌, ◌++◌, length, is_some}
use Rattle.std.specs.Prelude.{Some, None, filter, Option, ◌==◌, slice_index_or}
use Rattle.rules.specs.Lists.{numbers_below}
use Rattle.rules.specs.Logs.{LogEntry}

-- Where a load found its value: in a store of its own transaction, in a store of a committed
-- transaction, given by its name, or in the initial memory. The name of a committed transaction is
-- its place among the commits, from 0.
pub data Source : Type 0 where
  own_store : Source
  committed_store : ℕ → Source
  initial_memory : Source

-- A load of a transaction: its line, the value that it got, and where it found the value.
pub record LoadAction : Type 0 where
  pub line : ℕ
  pub value : ℕ
  pub source : Source

-- What a transaction did: a load or a store.
pub data Action : Type 0 where
  loaded : LoadAction → Action
  stored : LogEntry → Action

-- A load, from its parts.
abbrev pub load_action : ℕ → ℕ → Source → LoadAction
load_action line value source = record { line = line; value = value; source = source }

-- A transaction: its warp's stamp at its begin, its warp, and its loads and stores, latest first.
pub record Transaction : Type 0 where
  pub stamp : ℕ
  pub warp : ℕ
  pub actions : List Action

-- The value that a transaction last stored to a line, if it stored to it.
abbrev pub last_own_store : List Action → ℕ → Option ℕ
last_own_store [] line = None
last_own_store (loaded d ∷ before) line = last_own_store before line
last_own_store (stored s ∷ before) line =
    cond (s.line == line) (Some s.value) (last_own_store before line)

-- The transaction stored to the line.
abbrev pub is_written : List Action → ℕ → Bool
is_written actions line = is_some (last_own_store actions line)

-- The transaction loaded the line.
abbrev pub is_read : List Action → ℕ → Bool
is_read [] line = false
is_read (loaded d ∷ before) line = d.line == line || is_read before line
is_read (stored s ∷ before) line = is_read before line

-- How often the transaction stored to the line.
abbrev pub store_count : List Action → ℕ → ℕ
store_count [] line = 0
store_count (loaded d ∷ before) line = store_count before line
store_count (stored s ∷ before) line = cond (s.line == line) 1 0 + store_count before line

-- The stores of a transaction, in the order in which they were made.
abbrev pub transaction_stores : List Action → List LogEntry
transaction_stores [] = []
transaction_stores (loaded d ∷ before) = transaction_stores before
transaction_stores (stored s ∷ before) = transaction_stores before ++ s ∷ []

-- What a name past all commits stands for.
abbrev pub no_transaction : Transaction
no_transaction = record { stamp = 0; warp = 0; actions = [] }

-- The committed transaction with a name.
abbrev pub transaction_named : List Transaction → ℕ → Transaction
transaction_named txs name = slice_index_or txs name no_transaction

-- The names of the committed transactions that stored to a line, in commit order.
abbrev pub writers : List Transaction → ℕ → List ℕ
writers txs line =
    filter (λ name. is_written (transaction_named txs name).actions line)
    (numbers_below (length txs))

-- Where a load finds the value of a line that its own transaction did not store to: in the last
-- writer's store, or in the initial memory.
abbrev pub committed_source : Option ℕ → Source
committed_source None = initial_memory
committed_source (Some name) = committed_store name
