-- std's search finds the first stamp past the end of the clock.
use Rattle.std.proofs.Common.{◌≡◌, ℕ, leb, ltb, not, List, [], ◌∷◌, refl, arith}
use Rattle.std.specs.Prelude.{nat_lt}
use Rattle.std.specs.List.{find}
use Rattle.protocol.specs.Limits.{last_stamp}
use Rattle.rules.specs.Making.{first_late_stamp}

-- A stamp is past the end of the clock, or at most that.
late_or_early : (stamp : ℕ) → ltb 1000000000 stamp ≡ not (leb stamp 1000000000)
late_or_early stamp = grind arith

pub find_late_is_first_late : (stamps : List ℕ)
    → find (λ stamp. nat_lt last_stamp stamp) stamps ≡ first_late_stamp stamps
find_late_is_first_late [] = refl
find_late_is_first_late (stamp ∷ stamps) =
    grind (arith, late_or_early, find_late_is_first_late stamps)
