-- A refused call changes nothing; any other is an accepted step.
use Rattle.std.proofs.Common.{◌≡◌, IfErr, Some, None, Ok, Err, Option, Result, sym, ap, subst, refl}
use Rattle.protocol.specs.declared.call.Call.{Call}
use Rattle.protocol.specs.declared.fault.Fault.{Fault}
use Rattle.book.specs.Meaning.{Kind}
use Rattle.rules.specs.Queue.{Policy}
use Rattle.rules.specs.State.{MachineState}
use Rattle.rules.specs.Refusals.{fault_of}
use Rattle.rules.specs.Steps.{accepted_step, checked_step, step}
use Rattle.machine.specs.CallParts.{as_result}

passed_none : (o : Option Fault) → Ok tt ≡ as_result o → o ≡ None
passed_none None e = refl
passed_none (Some f) e = cc

passed_some : (o : Option Fault) (f : Fault) → Err f ≡ as_result o → o ≡ Some f
passed_some None f e = cc
passed_some (Some x) f e = cc

module _ {k : Kind} (policy : Policy k) (m : MachineState k) (call : Call) where
  pub accepted_step_is : Ok tt ≡ as_result (fault_of m call)
      → accepted_step policy m call.warp call.op ≡ step policy m call
  accepted_step_is e = ap (checked_step policy m call) (sym (passed_none (fault_of m call) e))

  pub refused_machine : (f : Fault) → Err f ≡ as_result (fault_of m call)
      → m ≡ (step policy m call).machine
  refused_machine f e =
      ap (λ o. (checked_step policy m call o).machine) (sym (passed_some (fault_of m call) f e))

  pub refused_answer : (f : Fault) → Err f ≡ as_result (fault_of m call)
      → Err f ≡ (step policy m call).answer
  refused_answer f e =
      ap (λ o. (checked_step policy m call o).answer) (sym (passed_some (fault_of m call) f e))

pub refused_at : {X Y : Type 0} (r : Result X Y) (y : Y) (Q : Y → Type 0) → r ≡ Err y → Q y
    → IfErr r Q
refused_at r y Q is q = subst (λ x. IfErr x Q) (sym is) q
