-- The law of accounts, of every run of a new machine: the account of its answers is the account of
-- its committed transactions executed alone exactly in the orders that keep conflicting
-- transactions in logical time.
use Rattle.std.proofs.Common.{◌≡◌, ℕ, [], Some, None, Option, sym, refl, ap, subst, inl, arith}
use Rattle.protocol.specs.declared.fault.Fault.{Fault}
use Rattle.memory.specs.Lines.{Lines}
use Rattle.book.specs.Meaning.{Kind}
use Rattle.rules.specs.State.{MachineState}
use Rattle.rules.specs.Making.{making_fault, first_warp_rows, new_machine}
use Rattle.rules.specs.Runs.{run}
use Rattle.rules.specs.Transactions.{transaction_named}
use Rattle.rules.specs.Ledger.{Ledger, new_ledger, ledger_of}
use Rattle.rules.specs.Laws.{AccountsAgree, LawOfAccounts}
use Rattle.rules.proofs.SerialAccount.{each_weaker}
use Rattle.rules.proofs.SerialOrders.{IsRightSource, Serial, accounts_agree}
use Rattle.rules.proofs.History.{ReadNow}
use Rattle.rules.proofs.Ledgers.{hold}
use Rattle.rules.proofs.Invariant.{Invariant}
use Rattle.rules.proofs.Calls.{run_keeps, new_keeps, no_writer, refused_stays}

-- The invariant contains the four facts of SerialOrders.
serial :
    (k : Kind) (first : Lines) (E : ℕ → ℕ → Type 0) (m : MachineState k) (l : Ledger)
    → Invariant k first E m l
    → Serial first l.committed m.lines
serial k first E m l I =
    record {
      sorted = I.history.core.sorted;
      loads =
          λ i low.
          each_weaker
          (ReadNow k first l.committed (hold l) m.book i (transaction_named l.committed i).stamp
          (transaction_named l.committed i).warp)
          (IsRightSource first l.committed i (transaction_named l.committed i).stamp
          (transaction_named l.committed i).warp)
          (λ line v f r. r.right) (transaction_named l.committed i).actions (I.history.past i low);
      last = I.history.core.last;
      warps = I.history.core.warps;
      there = I.history.core.there;
    }

-- They hold if there are no transactions.
nothing_serial : (first : Lines) → Serial first [] first
nothing_serial first =
    record {
      sorted = λ line i j l p q. absurd (no_writer line i p);
      loads = λ i low. absurd (omega arith);
      last = λ line. refl;
      warps = λ i low. absurd (omega arith);
      there = λ line i p. absurd (no_writer line i p);
    }

pub law_of_accounts : (k : Kind) → LawOfAccounts k
law_of_accounts k keeps policy lines book good stamps calls =
    by_fault (making_fault k book stamps) refl
  where
    by_fault :
        (o : Option Fault) → making_fault k book stamps ≡ o
        → AccountsAgree lines
        (ledger_of (run policy (new_machine k lines book stamps) calls).events)
        (run policy (new_machine k lines book stamps) calls).machine.lines
    by_fault None e =
        let I =
        run_keeps k lines keeps policy (Unit {0}) (λ m w r q. inl tt) calls
        (record { machine = new_machine k lines book stamps; events = [] })
        (new_keeps k keeps (Unit {0}) lines book good stamps e)
        in
        accounts_agree lines
        (ledger_of (run policy (new_machine k lines book stamps) calls).events).committed
        (run policy (new_machine k lines book stamps) calls).machine.lines
        (serial k lines (λ v n. Unit {0})
        (run policy (new_machine k lines book stamps) calls).machine
        (ledger_of (run policy (new_machine k lines book stamps) calls).events) I)
    by_fault (Some f) e =
        let kept =
        refused_stays k policy calls
        (record { machine = new_machine k lines book stamps; events = [] })
        (ap (λ o. first_warp_rows o stamps) e) refl
        in
        subst (λ l. AccountsAgree lines l
        (run policy (new_machine k lines book stamps) calls).machine.lines)
        (sym kept.1)
        (subst (λ (m : MachineState k). AccountsAgree lines new_ledger m.lines) (sym kept.0)
        (accounts_agree lines [] lines (nothing_serial lines)))
