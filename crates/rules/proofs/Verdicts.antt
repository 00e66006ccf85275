-- What each verdict of the access steps says of the line.
use Rattle.std.proofs.Common.{◌≡◌, ℕ, ◌≤◌, Bool, true, false, Some, None, Option, refl, ap}
use Rattle.std.proofs.lemmas.Bool.{both_ways, cond_both, eqb-true, ltb-false}
use Rattle.protocol.specs.declared.answer.Cause.TheVariants.{NoSlot}
use Rattle.book.specs.Time.{Time, earlier}
use Rattle.rules.specs.declared.state.Access.{Access}
use Rattle.rules.specs.declared.state.Access.TheVariants.{Read, Write}
use Rattle.book.specs.declared.book.LineState.{LineState}
use Rattle.rules.specs.declared.verdict.Verdict.{Verdict}
use Rattle.rules.specs.declared.verdict.Verdict.TheVariants.{OwnLine, Gone as VerdictGone, MustWait}
use Rattle.rules.specs.declared.verdict.Verdict.TheVariants.{GoOn}
use Rattle.rules.specs.Access.{verdict_by_owner, verdict_by_read_mark, retry_verdict, is_owner}
use Rattle.rules.specs.Access.{access_verdict, verdict_with_room}

-- A store may go on only if the line has no later read mark and has a slot.
abbrev pub Storable : Access → LineState → Time → Type 0
Storable Read t time = Unit {0}
Storable (Write value) t time = (earlier time t.read_mark ≡ false) × (t.has_slot ≡ true)

abbrev Unmarked : Access → LineState → Time → Type 0
Unmarked Read t time = Unit {0}
Unmarked (Write value) t time = earlier time t.read_mark ≡ false

-- The load or store may go on: nobody has the line reserved, and no later transaction wrote it.
pub record MayGoOn (access : Access) (t : LineState) (time : Time) : Type 0 where
  pub nobody : t.owner ≡ None
  pub unwritten : t.write_stamp ≤ time.0
  pub storable : Storable access t time

-- The request must wait: another warp has the line reserved, and no later transaction wrote it.
pub record IsBlockedByOwner (t : LineState) (time : Time) : Type 0 where
  pub holder : ℕ
  pub owned : t.owner ≡ Some holder
  pub unwritten : t.write_stamp ≤ time.0

-- What a verdict says. What `OwnLine` says is a parameter, since a retry skips the first step.
abbrev pub VerdictMeans : Type 0 → Access → LineState → Time → Verdict → Type 0
VerdictMeans P access t time OwnLine = P
VerdictMeans P access t time (VerdictGone cause next) = Unit {0}
VerdictMeans P access t time MustWait = IsBlockedByOwner t time
VerdictMeans P access t time GoOn = MayGoOn access t time

module _ (P : Type 0) (t : LineState) (time : Time) (unwritten : t.write_stamp ≤ time.0) where
  owner_verdict_means :
      (access : Access) → Unmarked access t time → (o : Option ℕ) → t.owner ≡ o
      → VerdictMeans P access t time (verdict_by_owner o access t time)
  owner_verdict_means Read st None e = record { nobody = e; unwritten = unwritten; storable = tt }
  owner_verdict_means (Write value) st None e =
      cond_both t.has_slot GoOn (VerdictGone NoSlot time.0) (VerdictMeans P (Write value) t time)
      (λ s. record { nobody = e; unwritten = unwritten; storable = (st, s) }) (λ s. tt)
  owner_verdict_means access st (Some v) e =
      record { holder = v; owned = e; unwritten = unwritten }

  mark_verdict_means : (access : Access)
      → VerdictMeans P access t time (verdict_by_read_mark access t time)
  mark_verdict_means Read = owner_verdict_means Read tt t.owner refl
  mark_verdict_means (Write value) =
      cond_both _ _ _ (VerdictMeans P (Write value) t time) (λ e. tt)
      (λ e. owner_verdict_means (Write value) e t.owner refl)

pub retried_verdict_means :
    (P : Type 0) (access : Access) (t : LineState) (time : Time)
    → VerdictMeans P access t time (retry_verdict access t time)
retried_verdict_means P access t time =
    cond_both _ _ _ (VerdictMeans P access t time) (λ e. tt)
    (λ e. mark_verdict_means P t time (ltb-false time.0 t.write_stamp e) access)

-- The owner of the line is the warp itself.
mine : (o : Option ℕ) (w : ℕ) → is_owner o w ≡ true → o ≡ Some w
mine None w e = absurd (both_ways false refl e)
mine (Some v) w e = ap Some (eqb-true v w e)

pub decided_verdict_means :
    (access : Access) (t : LineState) (time : Time)
    → VerdictMeans (t.owner ≡ Some time.1) access t time (access_verdict access t time)
decided_verdict_means access t time =
    cond_both _ _ _ (VerdictMeans (t.owner ≡ Some time.1) access t time)
    (λ e. mine t.owner time.1 e)
    (λ e. retried_verdict_means (t.owner ≡ Some time.1) access t time)

-- A full queue only replaces a wait by an abort.
pub verdict_with_room_means :
    (P : Type 0) (access : Access) (t : LineState) (time : Time) (full : Bool) (stamp : ℕ)
    (v : Verdict)
    → VerdictMeans P access t time v → VerdictMeans P access t time (verdict_with_room full stamp v)
verdict_with_room_means P access t time full stamp OwnLine p = p
verdict_with_room_means P access t time full stamp (VerdictGone cause next) p = tt
verdict_with_room_means P access t time true stamp MustWait p = tt
verdict_with_room_means P access t time false stamp MustWait p = p
verdict_with_room_means P access t time full stamp GoOn p = p
