-- The outcome that a phase holds.
use Rattle.std.specs.Prelude.{Some, None, Option}
use Rattle.protocol.specs.declared.answer.Outcome.{Outcome}
use Rattle.rules.specs.declared.state.Phase.{Phase}
use Rattle.rules.specs.declared.state.Phase.TheVariants.{Idle, Open, Waiting, Settled}

abbrev pub outcome_of : Phase → Option Outcome
outcome_of Idle = None
outcome_of Open = None
outcome_of Waiting = None
outcome_of (Settled outcome) = Some outcome
