-- The law of tables: after every run, what the machine's tables say of warps and lines is what the
-- ledger says.
use Rattle.std.proofs.Common.{◌≡◌, ℕ, ◌<◌, Bool, true, false, eqb, [], Some, None, Option, sym}
use Rattle.std.proofs.Common.{refl, ap, ◌∙◌, subst, inl}
use Rattle.std.proofs.lemmas.Bool.{eqb-true, not-false}
use Rattle.protocol.specs.Limits.{line_limit}
use Rattle.memory.specs.Lines.{Lines}
use Rattle.book.specs.Meaning.{Kind, Keeps, is_reserved}
use Rattle.rules.specs.State.{MachineState, warp_row_of}
use Rattle.rules.specs.Making.{new_machine}
use Rattle.rules.specs.Runs.{run}
use Rattle.rules.specs.Transactions.{Transaction}
use Rattle.rules.specs.Ledger.{Ledger, ledger_of}
use Rattle.rules.specs.Laws.{IsHolder, TablesAgree, LawOfTables}
use Rattle.rules.proofs.Ledgers.{hold_in, hold_writes}
use Rattle.rules.proofs.Invariant.{Running, Matches, Invariant, holds_line}
use Rattle.rules.proofs.Calls.{run_keeps, new_keeps}

module _
    (k : Kind) (keeps : Keeps k) (first : Lines) (E : ℕ → ℕ → Type 0) (m : MachineState k)
    (l : Ledger)
    (I : Invariant k first E m l)
  where
    runs : (w : ℕ) (tx : Transaction) → l.current w ≡ Some tx → Running (warp_row_of m w) tx
    runs w tx e = subst (Matches (warp_row_of m w)) e (I.warp_rows w)

    owned : (line h : ℕ) → IsHolder l line h → k.owner m.book line ≡ Some h
    owned line h o =
        (I.history.core.holder h line o.0.stamp
        (ap (λ x. hold_in x line) o.1 ∙ hold_writes o.0 line o.2)).owns

    free : (line : ℕ) → line < line_limit → ((h : ℕ) → IsHolder l line h → ⊥)
        → k.owner m.book line ≡ None
    free line low none = step (k.owner m.book line) refl
      where
        step : (o : Option ℕ) → k.owner m.book line ≡ o → o ≡ None
        step None e = refl
        step (Some h) e =
            let t = I.history.core.owner_holds line h low e in
            let q = holds_line k first l h line t.0 t.1 in
            absurd (none h (q.0, q.1, q.2))

    uncounted : (line : ℕ) → line < line_limit → k.owner m.book line ≡ None
        → k.stores m.book line ≡ 0
    uncounted line low e =
        eqb-true (k.stores m.book line) 0
        (not-false (eqb (k.stores m.book line) 0) (step (is_reserved k m.book line) refl))
      where
        step : (b : Bool) → is_reserved k m.book line ≡ b → b ≡ false
        step true p =
            let q = (keeps.tells m.book I.good line low).owned p in
            let r = q.1 in
            cc
        step false p = refl

    tables : TablesAgree m l
    tables =
        record {
          idle_warp = λ w e. subst (Matches (warp_row_of m w)) e (I.warp_rows w);
          busy_warp = λ w tx e. (runs w tx e).busy;
          its_stamp = λ w tx e. sym (runs w tx e).same_stamp;
          its_log = λ w tx e. (runs w tx e).same_log;
          held_line = owned;
          held_count = λ line h o. I.counts h o.0 o.1 line o.2;
          free_line = free;
          free_count = λ line low none. uncounted line low (free line low none);
        }

pub law_of_tables : (k : Kind) → LawOfTables k
law_of_tables k keeps policy lines book good stamps fine calls =
    tables k keeps lines (λ v n. Unit {0})
    (run policy (new_machine k lines book stamps) calls).machine
    (ledger_of (run policy (new_machine k lines book stamps) calls).events)
    (run_keeps k lines keeps policy (Unit {0}) (λ m w r q. inl tt) calls
    (record { machine = new_machine k lines book stamps; events = [] })
    (new_keeps k keeps (Unit {0}) lines book good stamps fine))
