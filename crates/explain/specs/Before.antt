-- What a call finds, read from the state of the machine before it.
use Rattle.std.specs.Prelude.{◌≡◌, ℕ, Some, None, Option, vec_items}
use Rattle.std.specs.Option.{option_map}
use Rattle.protocol.specs.declared.call.Call.{Call}
use Rattle.protocol.specs.declared.call.Op.{Op}
use Rattle.protocol.specs.declared.call.Op.TheVariants.{Begin, Load, Store, Commit, Drop, Fetch}
use Rattle.book.specs.Meaning.{Kind}
use Rattle.rules.specs.declared.state.Access.TheVariants.{Read, Write}
use Rattle.rules.specs.declared.state.Request.{Request}
use Rattle.rules.specs.declared.verdict.Verdict.{Verdict}
use Rattle.rules.specs.Queue.{Policy, request_of}
use Rattle.rules.specs.State.{MachineState, warp_row_of}
use Rattle.rules.specs.Steps.{verdict_at}
use Rattle.explain.specs.declared.before.Before.{Before}
use Rattle.explain.specs.declared.before.LineFacts.{LineFacts}
use Rattle.explain.specs.Waiting.{all_waiting}

-- What a book says of a line.
abbrev pub line_facts : (k : Kind) → k.State → ℕ → LineFacts
line_facts k book line =
    record {
      line = line;
      written = k.write_stamp book line;
      read = k.read_mark book line;
      stores = k.stores book line;
      owner = k.owner book line;
    }

module _ {k : Kind} where
  -- The verdict of the access steps on a load or a store; none for other calls.
  abbrev pub verdict_for : Policy k → MachineState k → ℕ → Op → Option Verdict
  verdict_for policy m w Begin = None
  verdict_for policy m w (Load line) = Some (verdict_at policy m w line Read)
  verdict_for policy m w (Store line value) = Some (verdict_at policy m w line (Write value))
  verdict_for policy m w Commit = None
  verdict_for policy m w Drop = None
  verdict_for policy m w Fetch = None

  abbrev pub verdict_before : Policy k → MachineState k → Call → Option Verdict
  verdict_before policy m call = verdict_for policy m call.warp call.op

  -- The line that a warp waits for.
  abbrev pub waited_line : MachineState k → ℕ → Option ℕ
  waited_line m w = option_map (λ (r : Request). r.line) (request_of m.queue w)

  -- The line that the call names, or else the one that its warp waits for.
  abbrev pub line_for : MachineState k → ℕ → Op → Option ℕ
  line_for m w Begin = waited_line m w
  line_for m w (Load line) = Some line
  line_for m w (Store line value) = Some line
  line_for m w Commit = waited_line m w
  line_for m w Drop = waited_line m w
  line_for m w Fetch = waited_line m w

  abbrev pub line_before : MachineState k → Call → Option LineFacts
  line_before m call = option_map (line_facts k m.book) (line_for m call.warp call.op)

  -- The facts are what a call finds in the machine.
  pub record IsBefore (policy : Policy k) (m : MachineState k) (call : Call) (facts : Before) :
      Type 0 where
    pub stamp : facts.stamp ≡ (warp_row_of m call.warp).stamp
    pub verdict : facts.verdict ≡ verdict_before policy m call
    pub line : facts.line ≡ line_before m call
    pub waiting : vec_items facts.waiting ≡ all_waiting m
