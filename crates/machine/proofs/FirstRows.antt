-- The rows that a machine is made with.
use Rattle.std.proofs.Common.{◌≡◌, ℕ, ◌≤◌, Bool, true, false, ◌&&◌, List, [], map, length, take}
use Rattle.std.proofs.Common.{take_all, Some, None, Option, Result, is_ok, nat_lt, nat_le, refl}
use Rattle.std.proofs.Common.{sym, ap}
use Rattle.std.proofs.lemmas.Bool.{and_parts, leb-true}
use Rattle.std.specs.Option.{option_or}
use Rattle.protocol.specs.declared.fault.Fault.{Fault}
use Rattle.protocol.specs.declared.fault.Refusal.{Refusal}
use Rattle.rules.specs.Making.{first_warp_rows}
use Rattle.rules.specs.Refusals.{fault_unless}
use Rattle.rules.specs.State.{idle_row}
use Rattle.machine.specs.CallParts.{as_result}

-- A shape without a fault has at most the maximum number of warps.
count_in_limit : (count : ℕ) (b : Bool) (refusal : Refusal) (rest : Option Fault)
    → b ≡ (nat_lt 0 count && nat_le count 32)
    → option_or (fault_unless b refusal count) rest ≡ None → count ≤ 32
count_in_limit count true refusal rest is e =
    leb-true count 32 (and_parts (nat_lt 0 count) (nat_le count 32) (sym is)).1
count_in_limit count false refusal rest is e = cc

pub first_rows_of_good_shape :
    (stamps : List ℕ) (refusal : Refusal) (rest found : Option Fault)
    (shape : Result (Unit {0}) Fault) (ok : Bool)
    → found ≡ option_or
    (fault_unless (nat_lt 0 (length stamps) && nat_le (length stamps) 32) refusal
    (length stamps)) rest
    → shape ≡ as_result found → ok ≡ is_ok shape → ok ≡ true
    → map idle_row (take 32 stamps) ≡ first_warp_rows found stamps
first_rows_of_good_shape stamps refusal rest None shape ok is s o e =
    ap (map idle_row)
    (take_all 32 stamps (count_in_limit (length stamps) _ refusal rest refl (sym is)))
first_rows_of_good_shape stamps refusal rest (Some fault) shape ok is s o e = cc

pub no_rows_of_refused_shape :
    (stamps : List ℕ) (found : Option Fault) (shape : Result (Unit {0}) Fault) (ok : Bool)
    → shape ≡ as_result found → ok ≡ is_ok shape → ok ≡ false → [] ≡ first_warp_rows found stamps
no_rows_of_refused_shape stamps None shape ok s o e = cc
no_rows_of_refused_shape stamps (Some fault) shape ok s o e = refl
