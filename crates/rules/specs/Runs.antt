-- Runs: calls executed one after another, with what each one answered and settled.
use Rattle.std.specs.Prelude.{ℕ, cond, List, [], ◌∷◌, ◌++◌, Some, None, fold, Option, Result, ◌==◌}
use Rattle.protocol.specs.declared.answer.Answer.{Answer}
use Rattle.protocol.specs.declared.call.Call.{Call}
use Rattle.protocol.specs.declared.fault.Fault.{Fault}
use Rattle.book.specs.Meaning.{Kind}
use Rattle.rules.specs.State.{MachineState, SettledRequest, warp_row_of}
use Rattle.rules.specs.Queue.{Policy}
use Rattle.rules.specs.Steps.{step}

-- What happened at a call: the call, its warp's stamp before it, its answer or its refusal, and the
-- requests that it settled, in order.
pub record Event : Type 0 where
  pub call : Call
  pub stamp : ℕ
  pub answer : Result Answer Fault
  pub settled : List SettledRequest

-- What calls leave: the machine, and the events, in order.
pub record Run (k : Kind) : Type 0 where
  pub machine : MachineState k
  pub events : List Event

module _ {k : Kind} where
  -- The event of a call.
  abbrev pub event_of : Policy k → MachineState k → Call → Event
  event_of policy m call =
      let s = step policy m call in
      record {
        call = call;
        stamp = (warp_row_of m call.warp).stamp;
        answer = s.answer;
        settled = s.settled;
      }

  -- A run with one more call.
  unfoldable pub run_with_call : Policy k → Run k → Call → Run k
  run_with_call policy r call =
      record {
        machine = (step policy r.machine call).machine;
        events = r.events ++ event_of policy r.machine call ∷ [];
      }

  -- The run of some calls, from a machine on.
  abbrev pub run : Policy k → MachineState k → List Call → Run k
  run policy m calls = fold (run_with_call policy) (record { machine = m; events = [] }) calls

-- All requests that were settled in some events, in order.
abbrev pub settled_requests : List Event → List SettledRequest
settled_requests [] = []
settled_requests (e ∷ events) = e.settled ++ settled_requests events

-- The last one among settled requests that is a warp's, if any.
abbrev pub last_settled_request : List SettledRequest → ℕ → Option SettledRequest
last_settled_request settled w =
    fold (λ found (s : SettledRequest). cond (s.warp == w) (Some s) found) None settled
