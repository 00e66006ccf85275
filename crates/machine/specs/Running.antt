-- The run of a new machine, and what is promised of it.
use Rattle.std.specs.Prelude.{ℕ, List, ◌++◌, drop, length, map, take, Result}
use Rattle.protocol.specs.declared.answer.Answer.{Answer}
use Rattle.protocol.specs.declared.call.Call.{Call}
use Rattle.protocol.specs.declared.fault.Fault.{Fault}
use Rattle.memory.specs.Lines.{Lines}
use Rattle.book.specs.Meaning.{Kind}
use Rattle.rules.specs.Ledger.{ledger_of}
use Rattle.rules.specs.Laws.{AccountsAgree, IsExplained, FetchesReturn, TablesAgree, WaitsEnd}
use Rattle.rules.specs.Queue.{product_policy}
use Rattle.rules.specs.Runs.{Event, Run, run}
use Rattle.rules.specs.Making.{new_machine}

abbrev pub run_of : (k : Kind) → Lines → k.State → List ℕ → List Call → Run k
run_of k lines book stamps calls = run (product_policy k) (new_machine k lines book stamps) calls

-- The calls that are made: as many as there are places for answers.
abbrev pub calls_made : List Call → List (Result Answer Fault) → List Call
calls_made calls places = take (length places) calls

-- What a run answers, call by call.
abbrev pub answers_in : List Event → List (Result Answer Fault)
answers_in events = map (λ (e : Event). e.answer) events

-- The answers stand in the first places; the rest keep what they had.
abbrev pub answers_after : List Event → List (Result Answer Fault) → List (Result Answer Fault)
answers_after events places = answers_in events ++ drop (length events) places

-- The laws for one run.
abbrev pub AccountsOf : {k : Kind} → Lines → Run k → Type 0
AccountsOf lines r = AccountsAgree lines (ledger_of r.events) r.machine.lines

abbrev pub ExplainedOf : {k : Kind} → Lines → Run k → Type 0
ExplainedOf lines r = IsExplained lines (ledger_of r.events) r.machine.lines

abbrev pub WaitsOf : {k : Kind} → Run k → Type 0
WaitsOf r = WaitsEnd r.machine (ledger_of r.events)

abbrev pub TablesOf : {k : Kind} → Run k → Type 0
TablesOf r = TablesAgree r.machine (ledger_of r.events)

abbrev pub FetchesOf : {k : Kind} → Run k → Type 0
FetchesOf r = FetchesReturn r.events
