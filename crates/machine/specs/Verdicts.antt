-- The stamp at which a transaction that is gone restarts.
use Rattle.std.specs.Prelude.{ℕ, ◌≤◌}
use Rattle.rules.specs.declared.verdict.Verdict.{Verdict}
use Rattle.rules.specs.declared.verdict.Verdict.TheVariants.{OwnLine, Gone, MustWait, GoOn}

-- If the transaction is gone, that stamp is within a bound.
abbrev pub NextWithin : ℕ → Verdict → Type 0
NextWithin bound OwnLine = Unit {0}
NextWithin bound (Gone cause next) = next ≤ bound
NextWithin bound MustWait = Unit {0}
NextWithin bound GoOn = Unit {0}
