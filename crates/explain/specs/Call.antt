-- The facts of a call.
use Rattle.std.specs.Prelude.{◌≡◌}
use Rattle.protocol.specs.declared.call.Call.{Call}
use Rattle.book.specs.Meaning.{Kind}
use Rattle.rules.specs.Queue.{Policy}
use Rattle.rules.specs.State.{MachineState}
use Rattle.rules.specs.Steps.{step}
use Rattle.explain.specs.declared.call.CallFacts.{CallFacts}
use Rattle.explain.specs.After.{IsAfter}
use Rattle.explain.specs.Before.{IsBefore}
use Rattle.explain.specs.Waiting.{all_waiting}

-- The facts of a call: what it finds is read from the machine before it, what it leaves from the
-- machine after it.
pub record AreFacts {k : Kind} (policy : Policy k) (m : MachineState k) (made : Call)
    (facts : CallFacts) : Type 0 where
  pub call : facts.call ≡ made
  pub reply : facts.reply ≡ (step policy m made).answer
  pub before : IsBefore policy m made facts.before
  pub after : IsAfter (step policy m made).machine (all_waiting m) facts.after
