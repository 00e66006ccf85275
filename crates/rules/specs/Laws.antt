-- What is promised of every run of a new machine. The law of accounts: the run is serializable in
-- timestamp order. The law of explanation: it is serializable in some order. The law of waits:
-- there is no deadlock. The law of tables: the machine's tables agree with the ledger. The law of
-- fetches: a fetch returns the outcome with which its warp's request was settled.
use Rattle.std.specs.Prelude.{◌≡◌, ◌≢◌, ℕ, zero, suc, ◌<◌, Bool, true, false, List, [], ◌∷◌, ◌++◌}
use Rattle.std.specs.Prelude.{length, Ok, Some, None, Option}
use Rattle.protocol.specs.Limits.{line_limit}
use Rattle.protocol.specs.Answers.{answer_of}
use Rattle.protocol.specs.declared.answer.Answer.{Answer}
use Rattle.protocol.specs.declared.answer.Answer.TheVariants.{Wait}
use Rattle.protocol.specs.declared.answer.Outcome.{Outcome}
use Rattle.protocol.specs.declared.answer.Outcome.TheVariants.{Value, Stored, Gone as OutcomeGone}
use Rattle.protocol.specs.declared.call.Call.{Call}
use Rattle.protocol.specs.declared.call.Op.TheVariants.{Fetch}
use Rattle.protocol.specs.declared.fault.Fault.{Fault}
use Rattle.memory.specs.Lines.{Lines}
use Rattle.book.specs.Meaning.{Kind, Keeps}
use Rattle.rules.specs.declared.state.Access.TheVariants.{Read, Write}
use Rattle.rules.specs.declared.state.Request.{Request}
use Rattle.rules.specs.Lists.{contains_number}
use Rattle.rules.specs.Logs.{log_entry}
use Rattle.rules.specs.State.{is_idle, MachineState, SettledRequest, warp_row_of, is_waiting}
use Rattle.rules.specs.Queue.{Policy, request_of, product_policy}
use Rattle.rules.specs.Refusals.{fault_of}
use Rattle.rules.specs.Steps.{refused_step, step}
use Rattle.rules.specs.Making.{making_fault, new_machine}
use Rattle.rules.specs.Runs.{Event, Run, run, settled_requests, last_settled_request}
use Rattle.rules.specs.Transactions.{transaction_stores, store_count, Source, Action, loaded}
use Rattle.rules.specs.Transactions.{stored, load_action, Transaction, is_written}
use Rattle.rules.specs.Ledger.{Ledger, ledger_of}
use Rattle.rules.specs.Account.{account_of, serial_account, EachOnce, EqualAccounts}
use Rattle.rules.specs.LogicalTime.{IsInLogicalOrder}

-- Serializability in timestamp order. The committed transactions, executed alone in some order,
-- give the machine's account exactly if the order puts first the logically earlier of every two
-- that conflict.
abbrev pub AccountsAgree : Lines → Ledger → Lines → Type 0
AccountsAgree initial l final =
    let txs = l.committed in
    let n = length txs in
    (order : List ℕ) → EachOnce order n
    → (EqualAccounts n (account_of txs final) (serial_account initial txs order)
    → IsInLogicalOrder txs order)
    × (IsInLogicalOrder txs order
    → EqualAccounts n (account_of txs final) (serial_account initial txs order))

-- Some order explains the run: the committed transactions, executed alone, once each, in that
-- order, give the machine's account.
abbrev pub IsExplained : Lines → Ledger → Lines → Type 0
IsExplained initial l final =
    let txs = l.committed in
    let n = length txs in
    (order : List ℕ) × EachOnce order n
    × EqualAccounts n (account_of txs final) (serial_account initial txs order)

-- A warp has a transaction, whose latest load or store is this one.
abbrev pub DidLast : Option Transaction → Action → Type 0
DidLast current action =
    (tx : Transaction) × (rest : List Action) × (current ≡ Some tx) × (tx.actions ≡ action ∷ rest)

-- A settled request has joined its warp's transaction: a load with its value, a store with the
-- value that it was to store. An aborted request joins nothing, and its transaction has not ended
-- yet.
abbrev pub HasJoined : Option Transaction → SettledRequest → Outcome → Type 0
HasJoined current s (Value value) =
    (source : Source) × (s.access ≡ Read)
    × DidLast current (loaded (load_action s.line value source))
HasJoined current s Stored =
    (value : ℕ) × (s.access ≡ Write value) × DidLast current (stored (log_entry s.line value))
HasJoined current s (OutcomeGone cause next) = (tx : Transaction) × (current ≡ Some tx)

-- What a fetch returns after some events: the outcome of its warp's request that was settled last.
-- The request joined its warp's transaction at the call that settled it, and the transaction has
-- not changed since.
pub record FetchReturns (before : List Event) (w : ℕ) (answer : Answer) : Type 0 where
  pub earlier : List Event
  pub settling_event : Event
  pub since : List Event
  pub in_turn : before ≡ earlier ++ settling_event ∷ since
  pub request : SettledRequest
  pub settled_there : last_settled_request settling_event.settled w ≡ Some request
  pub none_since : last_settled_request (settled_requests since) w ≡ None
  pub answered : answer ≡ answer_of request.outcome
  pub joined : HasJoined ((ledger_of (earlier ++ settling_event ∷ [])).current w) request
      request.outcome
  pub unchanged :
      (ledger_of before).current w ≡ (ledger_of (earlier ++ settling_event ∷ [])).current w

-- This holds for every fetch that is neither refused nor answered with wait.
abbrev pub FetchesReturn : List Event → Type 0
FetchesReturn events =
    (before : List Event) (e : Event) (after : List Event) → events ≡ before ++ e ∷ after
    → e.call.op ≡ Fetch → (answer : Answer) → e.answer ≡ Ok answer → answer ≢ Wait
    → FetchReturns before e.call.warp answer

-- A warp holds a line: its transaction, which has not ended, stored to it.
abbrev pub IsHolder : Ledger → ℕ → ℕ → Type 0
IsHolder l line h =
    (tx : Transaction) × (l.current h ≡ Some tx) × (is_written tx.actions line ≡ true)

-- The warp waits.
abbrev pub is_waiting_now : {k : Kind} → MachineState k → ℕ → Bool
is_waiting_now m w = is_waiting (warp_row_of m w).phase

module _ {k : Kind} (m : MachineState k) (l : Ledger) where
  -- A warp waits for a line that exactly one warp holds, and the holder has a smaller stamp.
  pub record WaitsFor (w h : ℕ) : Type 0 where
    pub waiting : is_waiting_now m w ≡ true
    pub request : Request
    pub requested : request_of m.queue w ≡ Some request
    pub held : IsHolder l request.line h
    pub only : (v : ℕ) → IsHolder l request.line v → v ≡ h
    pub falls : (warp_row_of m h).stamp < (warp_row_of m w).stamp

  -- A number of steps, each from a waiting warp to the holder that it waits for, leads from a warp
  -- to one that does not wait.
  pub data Leads : ℕ → ℕ → Type 0 where
    free : {w : ℕ} → is_waiting_now m w ≡ false → Leads w zero
    onward : {w h steps : ℕ} → WaitsFor w h → Leads h steps → Leads w (suc steps)

  -- No deadlock: from every waiting warp, fewer steps than there are warps lead to a warp that does
  -- not wait.
  abbrev pub WaitsEnd : Type 0
  WaitsEnd =
      (w : ℕ) → is_waiting_now m w ≡ true
      → (steps : ℕ) × Leads w steps × (steps < length m.warp_rows)

  -- The machine's tables agree with the ledger. A warp is idle exactly when it has no transaction;
  -- otherwise its row has its transaction's stamp and stores. A line that a transaction stored to
  -- belongs to its warp, and its count is the number of these stores; every other line belongs to
  -- nobody and has count 0.
  pub record TablesAgree : Type 0 where
    pub idle_warp : (w : ℕ) → l.current w ≡ None → is_idle (warp_row_of m w).phase ≡ true
    pub busy_warp :
        (w : ℕ) (tx : Transaction) → l.current w ≡ Some tx → is_idle (warp_row_of m w).phase ≡ false
    pub its_stamp :
        (w : ℕ) (tx : Transaction) → l.current w ≡ Some tx → (warp_row_of m w).stamp ≡ tx.stamp
    pub its_log :
        (w : ℕ) (tx : Transaction) → l.current w ≡ Some tx
        → (warp_row_of m w).log ≡ transaction_stores tx.actions
    pub held_line : (line h : ℕ) → IsHolder l line h → k.owner m.book line ≡ Some h
    pub held_count :
        (line h : ℕ) (held : IsHolder l line h)
        → k.stores m.book line ≡ store_count held.0.actions line
    pub free_line :
        (line : ℕ) → line < line_limit → ((h : ℕ) → IsHolder l line h → ⊥)
        → k.owner m.book line ≡ None
    pub free_count :
        (line : ℕ) → line < line_limit → ((h : ℕ) → IsHolder l line h → ⊥)
        → k.stores m.book line ≡ 0

-- An order of turns leaves out no request that waits.
abbrev pub Covers : {k : Kind} → Policy k → Type 0
Covers {k} policy =
    (m : MachineState k) (w : ℕ) (r : Request) → request_of m.queue w ≡ Some r
    → contains_number w (policy.turns m r.line) ≡ true

-- One run, from an initial memory, keeps the law of accounts and the law of waits, and some order
-- explains it.
pub record IsLawful {k : Kind} (initial : Lines) (r : Run k) : Type 0 where
  pub accounts : AccountsAgree initial (ledger_of r.events) r.machine.lines
  pub explained : IsExplained initial (ledger_of r.events) r.machine.lines
  pub waits : WaitsEnd r.machine (ledger_of r.events)

module _ (k : Kind) where
  -- The law of accounts. It holds of every run of a new machine over a kind of book, with any
  -- memory, any order of turns and any queue limits.
  abbrev pub LawOfAccounts : Type 0
  LawOfAccounts =
      Keeps k → (policy : Policy k) (lines : Lines) (book : k.State) → k.Good book
      → (stamps : List ℕ) (calls : List Call)
      → (let r = run policy (new_machine k lines book stamps) calls in
      AccountsAgree lines (ledger_of r.events) r.machine.lines)

  -- The law of explanation, of every such run. The order of logical time explains it.
  abbrev pub LawOfExplanation : Type 0
  LawOfExplanation =
      Keeps k → (policy : Policy k) (lines : Lines) (book : k.State) → k.Good book
      → (stamps : List ℕ) (calls : List Call)
      → (let r = run policy (new_machine k lines book stamps) calls in
      IsExplained lines (ledger_of r.events) r.machine.lines)

  -- The law of fetches, of every run of a new machine over any book.
  abbrev pub LawOfFetches : Type 0
  LawOfFetches =
      (policy : Policy k) (lines : Lines) (book : k.State) (stamps : List ℕ) (calls : List Call)
      → FetchesReturn (run policy (new_machine k lines book stamps) calls).events

  -- The law of waits, of every such run with an order of turns that leaves out no waiting request.
  abbrev pub LawOfWaits : Type 0
  LawOfWaits =
      Keeps k → (policy : Policy k) → Covers policy → (lines : Lines) (book : k.State) → k.Good book
      → (stamps : List ℕ) (calls : List Call)
      → (let r = run policy (new_machine k lines book stamps) calls in
      WaitsEnd r.machine (ledger_of r.events))

  -- The law of tables, of every such run of a machine that was not refused when it was made.
  abbrev pub LawOfTables : Type 0
  LawOfTables =
      Keeps k → (policy : Policy k) (lines : Lines) (book : k.State) → k.Good book
      → (stamps : List ℕ) → making_fault k book stamps ≡ None → (calls : List Call)
      → (let r = run policy (new_machine k lines book stamps) calls in
      TablesAgree r.machine (ledger_of r.events))

  -- The product's own order of turns leaves out no waiting request.
  abbrev pub ProductCovers : Type 0
  ProductCovers = Covers (product_policy k)

  -- So every run of the product's machine keeps the law of accounts and the law of waits.
  abbrev pub ProductLawful : Type 0
  ProductLawful =
      Keeps k → (lines : Lines) (book : k.State) → k.Good book
      → (stamps : List ℕ) (calls : List Call)
      → IsLawful lines (run (product_policy k) (new_machine k lines book stamps) calls)

  -- A refused call returns its fault and changes nothing: no warp, log, queue, book or line.
  abbrev pub RefusalsChangeNothing : Type 0
  RefusalsChangeNothing =
      (policy : Policy k) (m : MachineState k) (call : Call) (fault : Fault)
      → fault_of m call ≡ Some fault
      → step policy m call ≡ refused_step m fault
