-- The law of waits: after every run of a new machine, from each waiting warp to the holder of its
-- line, and on while the holder waits, stamps strictly decrease, and fewer steps than there are
-- warps lead to one that does not wait.
use Rattle.std.proofs.Common.{◌≡◌, ℕ, zero, suc, ◌+◌, ◌<◌, ◌≤◌, Bool, true, false, cond, ltb, ◌⊎◌}
use Rattle.std.proofs.Common.{[], length, get_or, Some, None, Option, sym, refl, ap, ◌∙◌, subst}
use Rattle.std.proofs.Common.{inl, inr, ⊎_elim, arith}
use Rattle.std.proofs.lemmas.Bool.{both_ways, ltb-true, lt-ltb, le-ltb, cases_eq}
use Rattle.protocol.specs.declared.fault.Fault.{Fault}
use Rattle.memory.specs.Lines.{Lines}
use Rattle.book.specs.Meaning.{Kind, count_below}
use Rattle.rules.specs.State.{MachineState, idle_row, is_waiting, warp_row_of}
use Rattle.rules.specs.Making.{making_fault, first_warp_rows, new_machine}
use Rattle.rules.specs.Runs.{run}
use Rattle.rules.specs.Ledger.{Ledger, ledger_of}
use Rattle.rules.specs.Laws.{IsHolder, WaitsFor, Leads, free, onward, is_waiting_now, WaitsEnd}
use Rattle.rules.specs.Laws.{LawOfWaits}
use Rattle.rules.proofs.Ledgers.{hold, hold_in, hold_writes}
use Rattle.rules.proofs.Logs.{busy_low}
use Rattle.rules.proofs.Invariant.{Matches, Blocked, Invariant, holds_line}
use Rattle.rules.proofs.Calls.{run_keeps, new_keeps, refused_stays}

-- Counting: fewer numbers pass a stricter test.
counted_most : (p : ℕ → Bool) (n : ℕ) → count_below p n ≤ n
counted_most p zero = omega arith
counted_most p (suc n) = step (p n) (counted_most p n)
  where
    step : (b : Bool) → count_below p n ≤ n → cond b 1 0 + count_below p n ≤ suc n
    step true h = omega arith
    step false h = omega arith

counted_less : (p q : ℕ → Bool) → ((x : ℕ) → p x ≡ true → q x ≡ true) → (n : ℕ)
    → count_below p n ≤ count_below q n
counted_less p q to zero = omega arith
counted_less p q to (suc n) = step (p n) refl (q n) refl (counted_less p q to n)
  where
    step :
        (a : Bool) → p n ≡ a → (b : Bool) → q n ≡ b → count_below p n ≤ count_below q n
        → cond a 1 0 + count_below p n ≤ cond b 1 0 + count_below q n
    step true e true f h = omega arith
    step true e false f h = absurd (both_ways (q n) f (to n e))
    step false e true f h = omega arith
    step false e false f h = omega arith

counted_fewer :
    (p q : ℕ → Bool) → ((x : ℕ) → p x ≡ true → q x ≡ true) → (n z : ℕ) → z < n → p z ≡ false
    → q z ≡ true
    → count_below p n < count_below q n
counted_fewer p q to zero z l e f = absurd (omega arith)
counted_fewer p q to (suc n) z l e f = by_place (cases_eq z n) (counted_fewer p q to n z)
  where
    here : (a b : Bool) → a ≡ false → b ≡ true
        → cond a 1 0 + count_below p n < cond b 1 0 + count_below q n
    here true b x y = absurd (both_ways true x refl)
    here false true x y = let h = counted_less p q to n in omega arith
    here false false x y = absurd (both_ways false refl y)

    below :
        (a : Bool) → p n ≡ a → (b : Bool) → q n ≡ b → count_below p n < count_below q n
        → cond a 1 0 + count_below p n < cond b 1 0 + count_below q n
    below true x true y h = omega arith
    below true x false y h = absurd (both_ways (q n) y (to n x))
    below false x true y h = omega arith
    below false x false y h = omega arith

    by_place :
        (z ≡ n) ⊎ (z ≡ n → ⊥)
        → (z < n → p z ≡ false → q z ≡ true → count_below p n < count_below q n)
        → cond (p n) 1 0 + count_below p n < cond (q n) 1 0 + count_below q n
    by_place (inl x) rest = here (p n) (q n) (ap p (sym x) ∙ e) (ap q (sym x) ∙ f)
    by_place (inr x) rest = below (p n) refl (q n) refl (rest (omega arith) e f)

counted_not_all : (p : ℕ → Bool) (n z : ℕ) → z < n → p z ≡ false → count_below p n < n
counted_not_all p n z l e =
    let a = counted_fewer p (λ x. true) (λ x h. refl) n z l e refl in
    let b = counted_most (λ x. true) n in
    omega arith

module _ (k : Kind) (first : Lines) (m : MachineState k) (l : Ledger)
    (I : Invariant k first (λ v n. ⊥) m l) where
  -- A waiting warp waits for the one holder of its line.
  next : (w : ℕ) → is_waiting_now m w ≡ true → (h : ℕ) × WaitsFor m l w h
  next w p =
      let q = I.waiters w p in
      ⊎_elim (λ e. absurd e)
      (λ (b : Blocked l q.request.line (warp_row_of m w).stamp).
      let o = holds_line k first l b.by_warp q.request.line b.at_stamp b.is_held in (
        b.by_warp,
        record {
          waiting = p;
          request = q.request;
          requested = q.requested;
          held = (o.0, o.1, o.2);
          only = λ v h. only_one v b.by_warp q.request.line b.at_stamp h b.is_held;
          falls =
              let s : o.0.stamp ≡ (warp_row_of m b.by_warp).stamp =
              (subst (Matches (warp_row_of m b.by_warp)) o.1 (I.warp_rows b.by_warp)).same_stamp
              in
              let f = b.falls in
              let t = o.3 in
              omega arith;
        },
      ))
      q.blocked
    where
      only_one : (v h line t : ℕ) → IsHolder l line v → hold l h line ≡ Some t → v ≡ h
      only_one v h line t o e =
          let p : hold l v line ≡ Some o.0.stamp =
          ap (λ x. hold_in x line) o.1 ∙ hold_writes o.0 line o.2
          in
          let a = (I.history.core.holder v line o.0.stamp p).owns in
          let b = (I.history.core.holder h line t e).owns in
          cc

  -- Warps with a smaller stamp.
  abbrev lower : ℕ → ℕ → Bool
  lower w v = ltb (warp_row_of m v).stamp (warp_row_of m w).stamp

  abbrev size : ℕ
  size = length m.warp_rows

  leads :
      (fuel w : ℕ) → count_below (lower w) size < fuel
      → (steps : ℕ) × Leads m l w steps × (steps ≤ count_below (lower w) size)
  leads zero w low = absurd (omega arith)
  leads (suc fuel) w low = by_phase (is_waiting_now m w) refl (leads fuel)
    where
      by_phase :
          (b : Bool) → is_waiting_now m w ≡ b
          → ((v : ℕ) → count_below (lower v) size < fuel
          → (steps : ℕ) × Leads m l v steps × (steps ≤ count_below (lower v) size))
          → (steps : ℕ) × Leads m l w steps × (steps ≤ count_below (lower w) size)
      by_phase false e rest = (0, free e, omega arith)
      by_phase true e rest =
          let n = next w e in
          let h = n.0 in
          let held = n.1.held in
          let busy =
          (subst (Matches (warp_row_of m n.0)) held.1 (I.warp_rows n.0)).busy
          in
          let inside : n.0 < size = busy_low m n.0 busy in
          let fewer : count_below (lower n.0) size < count_below (lower w) size =
          counted_fewer (lower n.0) (lower w)
          (λ x p.
          let a = ltb-true (warp_row_of m x).stamp (warp_row_of m n.0).stamp p in
          let b = n.1.falls in
          lt-ltb (warp_row_of m x).stamp (warp_row_of m w).stamp (omega arith))
          size n.0 inside (le-ltb (warp_row_of m n.0).stamp (warp_row_of m n.0).stamp (omega arith))
          (lt-ltb (warp_row_of m n.0).stamp (warp_row_of m w).stamp n.1.falls)
          in
          let r = rest n.0 (omega arith) in
          (suc r.0, onward n.1 r.1, let a = r.2 in omega arith)

  waits_end : WaitsEnd m l
  waits_end w p =
      let r = leads (suc (count_below (lower w) size)) w (omega arith) in
      let q = I.warp_rows w in
      let inside : w < size =
      busy_low m w (Rattle.rules.proofs.Logs.waiting_busy (warp_row_of m w).phase p) in
      let few : count_below (lower w) size < size =
      counted_not_all (lower w) size w inside
      (le-ltb (warp_row_of m w).stamp (warp_row_of m w).stamp (omega arith))
      in
      (r.0, r.1, let a = r.2 in omega arith)

pub law_of_waits : (k : Kind) → LawOfWaits k
law_of_waits k keeps policy covers lines book good stamps calls =
    by_fault (making_fault k book stamps) refl
  where
    by_fault :
        (o : Option Fault) → making_fault k book stamps ≡ o
        → WaitsEnd (run policy (new_machine k lines book stamps) calls).machine
        (ledger_of (run policy (new_machine k lines book stamps) calls).events)
    by_fault None e =
        waits_end k lines (run policy (new_machine k lines book stamps) calls).machine
        (ledger_of (run policy (new_machine k lines book stamps) calls).events)
        (run_keeps k lines keeps policy ⊥ (λ m w r q. inr (covers m w r q)) calls
        (record { machine = new_machine k lines book stamps; events = [] })
        (new_keeps k keeps ⊥ lines book good stamps e))
    by_fault (Some f) e =
        let kept =
        refused_stays k policy calls
        (record { machine = new_machine k lines book stamps; events = [] })
        (ap (λ o. first_warp_rows o stamps) e) refl
        in
        let none : (run policy (new_machine k lines book stamps) calls).machine.warp_rows ≡ [] =
        ap (λ (m : MachineState k). m.warp_rows) kept.0 ∙ ap (λ o. first_warp_rows o stamps) e
        in
        λ w p.
        absurd
        (both_ways false refl
        (subst (λ warp_rows. is_waiting (get_or warp_rows w (idle_row 0)).phase ≡ true) none p))
