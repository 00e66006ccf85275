-- What a call leaves, read from the state of the machine after it.
use Rattle.std.specs.Prelude.{◌≡◌, List, map, Option, vec_items}
use Rattle.std.specs.List.{filter_map}
use Rattle.std.specs.Option.{option_map}
use Rattle.protocol.specs.declared.answer.Outcome.{Outcome}
use Rattle.book.specs.Meaning.{Kind}
use Rattle.machine.specs.Outcomes.{outcome_of}
use Rattle.rules.specs.declared.state.Request.{Request}
use Rattle.rules.specs.State.{MachineState, warp_row_of}
use Rattle.explain.specs.declared.after.After.{After}
use Rattle.explain.specs.declared.after.Settled.{Settled}
use Rattle.explain.specs.declared.after.Wait.{Wait}
use Rattle.explain.specs.Waiting.{all_waiting}

-- A request with its outcome.
abbrev pub settled_by : Request → Outcome → Settled
settled_by request outcome = record { warp = request.warp; line = request.line; outcome = outcome }

module _ {k : Kind} where
  -- A request with its outcome, if it is settled.
  abbrev pub settled_of : MachineState k → Request → Option Settled
  settled_of m request =
      option_map (settled_by request) (outcome_of (warp_row_of m request.warp).phase)

  abbrev pub all_settled : MachineState k → List Request → List Settled
  all_settled m waited = filter_map (settled_of m) waited

  -- A waiting request, with the warp that has its line.
  abbrev pub wait_of : MachineState k → Request → Wait
  wait_of m request =
      record { warp = request.warp; line = request.line; owner = k.owner m.book request.line }

  abbrev pub all_waits : MachineState k → List Wait
  all_waits m = map (wait_of m) (all_waiting m)

  -- The facts are what a call has left in the machine. The requests that waited before it are
  -- given.
  pub record IsAfter (m : MachineState k) (waited : List Request) (facts : After) : Type 0 where
    pub settled : vec_items facts.settled ≡ all_settled m waited
    pub waits : vec_items facts.waits ≡ all_waits m
