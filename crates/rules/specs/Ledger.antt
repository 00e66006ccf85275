-- The ledger of a run: which loads and stores belong to which transaction, and which transactions
-- have committed. It is built call by call, from the answers alone.
use Rattle.std.specs.Prelude.{ℕ, cond, List, [], ◌∷◌, ◌++◌, Ok, Err, Result, Some, None, fold}
use Rattle.std.specs.Prelude.{Option, ◌==◌}
use Rattle.std.specs.Option.{option_map, option_to_list}
use Rattle.protocol.specs.declared.answer.Answer.{Answer}
use Rattle.protocol.specs.declared.answer.Answer.TheVariants.{Done, Val, Wait, Gone}
use Rattle.protocol.specs.declared.answer.Outcome.{Outcome}
use Rattle.protocol.specs.declared.answer.Outcome.TheVariants.{Value, Stored, Gone as OutcomeGone}
use Rattle.protocol.specs.declared.call.Op.{Op}
use Rattle.protocol.specs.declared.call.Op.TheVariants.{Begin, Load, Store, Commit, Drop, Fetch}
use Rattle.protocol.specs.declared.fault.Fault.{Fault}
use Rattle.rules.specs.declared.state.Access.{Access}
use Rattle.rules.specs.declared.state.Access.TheVariants.{Read, Write}
use Rattle.rules.specs.Lists.{last_of}
use Rattle.rules.specs.Logs.{log_entry}
use Rattle.rules.specs.State.{SettledRequest}
use Rattle.rules.specs.Runs.{Event}
use Rattle.rules.specs.Transactions.{last_own_store, writers, committed_source, Source, Action}
use Rattle.rules.specs.Transactions.{Transaction}
use Rattle.rules.specs.Transactions.{own_store, loaded, stored, load_action}

-- The transaction of each warp that has one, and the committed transactions, in commit order.
pub record Ledger : Type 0 where
  pub current : ℕ → Option Transaction
  pub committed : List Transaction

-- Where a load finds its value: in its own transaction's last store to the line, if any, or else
-- where others left it.
abbrev pub own_or_other_source : Option ℕ → Source → Source
own_or_other_source None others = others
own_or_other_source (Some value) others = own_store

-- The transaction with one more load or store.
abbrev pub with_action : Transaction → Action → Transaction
with_action tx action = record tx { actions = action ∷ tx.actions }

-- Where a load finds its value when it joins its transaction.
abbrev pub load_source : List Transaction → Transaction → ℕ → Source
load_source txs tx line =
    own_or_other_source (last_own_store tx.actions line)
    (committed_source (last_of (writers txs line)))

-- The ledger with another transaction, or none, for one warp.
abbrev pub with_current : Ledger → ℕ → Option Transaction → Ledger
with_current l w tx = record l { current = λ v. cond (v == w) tx (l.current v) }

-- The ledger after a load or a store joins its warp's transaction.
abbrev pub with_joined_action : Ledger → ℕ → (Transaction → Action) → Ledger
with_joined_action l w action =
    with_current l w (option_map (λ tx. with_action tx (action tx)) (l.current w))

-- The ledger after a load joins its warp's transaction.
abbrev pub with_load : Ledger → ℕ → ℕ → ℕ → Ledger
with_load l w line value =
    with_joined_action l w
    (λ tx. loaded (load_action line value (load_source l.committed tx line)))

-- The ledger after a store joins its warp's transaction.
abbrev pub with_store : Ledger → ℕ → ℕ → ℕ → Ledger
with_store l w line value = with_joined_action l w (λ tx. stored (log_entry line value))

-- The ledger after a warp begins a transaction, empty and at the warp's stamp.
abbrev pub with_begun : Ledger → ℕ → ℕ → Ledger
with_begun l w stamp = with_current l w (Some (record { stamp = stamp; warp = w; actions = [] }))

-- The ledger after a warp's transaction ends without a commit.
abbrev pub without_current : Ledger → ℕ → Ledger
without_current l w = with_current l w None

-- The ledger after a warp's transaction commits.
abbrev pub with_committed : Ledger → ℕ → Ledger
with_committed l w =
    record (without_current l w) { committed = l.committed ++ option_to_list (l.current w) }

-- The ledger after the answer `ok` to a warp's call, at the warp's stamp. A fetched store joined
-- its transaction when it was settled.
abbrev pub ledger_after_done : Ledger → ℕ → ℕ → Op → Ledger
ledger_after_done l w stamp Begin = with_begun l w stamp
ledger_after_done l w stamp (Load line) = l
ledger_after_done l w stamp (Store line value) = with_store l w line value
ledger_after_done l w stamp Commit = with_committed l w
ledger_after_done l w stamp Drop = without_current l w
ledger_after_done l w stamp Fetch = l

-- The ledger after a value. A fetched load joined its transaction when it was settled.
abbrev pub ledger_after_value : Ledger → ℕ → Op → ℕ → Ledger
ledger_after_value l w Begin value = l
ledger_after_value l w (Load line) value = with_load l w line value
ledger_after_value l w (Store line new) value = l
ledger_after_value l w Commit value = l
ledger_after_value l w Drop value = l
ledger_after_value l w Fetch value = l

-- The ledger after any answer. A wait changes nothing.
abbrev pub ledger_after_answer : Ledger → ℕ → ℕ → Op → Answer → Ledger
ledger_after_answer l w stamp op Done = ledger_after_done l w stamp op
ledger_after_answer l w stamp op (Val value) = ledger_after_value l w op value
ledger_after_answer l w stamp op Wait = l
ledger_after_answer l w stamp op (Gone cause next) = without_current l w

-- The ledger after an answer or a refusal. A refusal changes nothing.
abbrev pub ledger_after_reply : Ledger → ℕ → ℕ → Op → Result Answer Fault → Ledger
ledger_after_reply l w stamp op (Ok answer) = ledger_after_answer l w stamp op answer
ledger_after_reply l w stamp op (Err fault) = l

-- The ledger after a waiting load or store gets its outcome: a load with a value and a store that
-- is done join their warp's transaction. An abort changes nothing, since the transaction ends only
-- at the fetch. No other outcome occurs, and none would change anything.
abbrev pub ledger_after_outcome : Ledger → ℕ → ℕ → Access → Outcome → Ledger
ledger_after_outcome l w line Read (Value value) = with_load l w line value
ledger_after_outcome l w line Read Stored = l
ledger_after_outcome l w line Read (OutcomeGone cause next) = l
ledger_after_outcome l w line (Write new) (Value value) = l
ledger_after_outcome l w line (Write new) Stored = with_store l w line new
ledger_after_outcome l w line (Write new) (OutcomeGone cause next) = l

-- The ledger after a request is settled.
abbrev pub ledger_after_settled : Ledger → SettledRequest → Ledger
ledger_after_settled l s = ledger_after_outcome l s.warp s.line s.access s.outcome

-- The ledger after a call: first its own answer, then the requests that it settled, in order.
unfoldable pub ledger_after_event : Ledger → Event → Ledger
ledger_after_event l e =
    fold ledger_after_settled (ledger_after_reply l e.call.warp e.stamp e.call.op e.answer)
    e.settled

-- The ledger before the first call: no warp has a transaction, and none is committed.
abbrev pub new_ledger : Ledger
new_ledger = record { current = λ w. None; committed = [] }

-- The ledger of a run, from its events.
abbrev pub ledger_of : List Event → Ledger
ledger_of events = fold ledger_after_event new_ledger events
