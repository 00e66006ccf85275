-- The invariant of a run, which links machine, ledger and waiting requests, and how a change of one
-- warp keeps it.
use Rattle.std.proofs.Common.{◌≡◌, ℕ, ◌<◌, ◌≤◌, Bool, true, false, cond, eqb, ◌⊎◌, ◌∷◌, length}
use Rattle.std.proofs.Common.{is_some, Some, None, Option, sym, refl, ap, ◌∙◌, subst, inl, inr}
use Rattle.std.proofs.Common.{⊎_elim, arith}
use Rattle.std.proofs.lemmas.Bool.{eqb-true, ne_eqb, cases_eq}
use Rattle.std.specs.Option.{option_map}
use Rattle.protocol.specs.Limits.{line_limit, last_stamp}
use Rattle.memory.specs.Lines.{Lines}
use Rattle.book.specs.Meaning.{Kind, Keeps}
use Rattle.rules.specs.declared.state.Request.{Request}
use Rattle.rules.specs.State.{WarpRow, MachineState, is_idle, is_waiting, warp_row_of}
use Rattle.rules.specs.Queue.{request_of}
use Rattle.rules.specs.Transactions.{Action, Transaction, is_written, transaction_stores}
use Rattle.rules.specs.Ledger.{Ledger, with_action, with_current}
use Rattle.rules.proofs.ListFacts.{eqb_refl}
use Rattle.rules.proofs.StoreCounts.{CountsAgree}
use Rattle.rules.proofs.Ledgers.{hold_in, hold, hold_writes, History}
use Rattle.rules.proofs.Logs.{busy_low}

-- A warp with a transaction: the row has its stamp and its stores.
pub record Running (warp_row : WarpRow) (tx : Transaction) : Type 0 where
  pub busy : is_idle warp_row.phase ≡ false
  pub same_stamp : tx.stamp ≡ warp_row.stamp
  pub same_log : warp_row.log ≡ transaction_stores tx.actions
  pub in_clock : warp_row.stamp ≤ last_stamp

abbrev pub Matches : WarpRow → Option Transaction → Type 0
Matches warp_row None = is_idle warp_row.phase ≡ true
Matches warp_row (Some tx) = Running warp_row tx

-- A line is held at a stamp below t.
pub record Blocked (l : Ledger) (line t : ℕ) : Type 0 where
  pub by_warp : ℕ
  pub at_stamp : ℕ
  pub is_held : hold l by_warp line ≡ Some at_stamp
  pub falls : at_stamp < t

module _ (k : Kind) (first : Lines) where
  -- A warp that waits: its request, and that its line is held at a smaller stamp. While retries go
  -- on, warps that are still to be retried are exempt (E) from the latter.
  pub record Waiter (E : ℕ → ℕ → Type 0) (m : MachineState k) (l : Ledger) (w : ℕ) : Type 0 where
    pub request : Request
    pub requested : request_of m.queue w ≡ Some request
    pub line_low : request.line < line_limit
    pub there : is_some (first request.line) ≡ true
    pub blocked : E w request.line ⊎ Blocked l request.line (warp_row_of m w).stamp

  pub record Invariant (E : ℕ → ℕ → Type 0) (m : MachineState k) (l : Ledger) : Type 0 where
    pub good : k.Good m.book
    pub history : History k first l m.lines m.book
    pub warp_rows : (w : ℕ) → Matches (warp_row_of m w) (l.current w)
    pub size : length m.warp_rows ≤ 32
    pub waiters : (w : ℕ) → is_waiting (warp_row_of m w).phase ≡ true → Waiter E m l w
    pub quiet : (w : ℕ) → is_waiting (warp_row_of m w).phase ≡ false → request_of m.queue w ≡ None
    pub counts : CountsAgree k l m.book

  -- The exemptions may change, as long as each waiting warp is exempt or blocked.
  pub exempt :
      (E E' : ℕ → ℕ → Type 0) (m : MachineState k) (l : Ledger) → Invariant E m l
      → ((w : ℕ) (r : Request) → is_waiting (warp_row_of m w).phase ≡ true
      → request_of m.queue w ≡ Some r
      → E w r.line → E' w r.line ⊎ Blocked l r.line (warp_row_of m w).stamp)
      → Invariant E' m l
  exempt E E' m l I to =
      record {
        good = I.good;
        history = I.history;
        warp_rows = I.warp_rows;
        size = I.size;
        waiters =
            λ w e.
            let old = I.waiters w e in
            record {
              request = old.request;
              requested = old.requested;
              line_low = old.line_low;
              there = old.there;
              blocked = ⊎_elim (to w old.request e old.requested) inr old.blocked;
            };
        quiet = I.quiet;
        counts = I.counts;
      }

  -- One warp's row is replaced, and the other rows stay.
  pub one_row_keeps :
      (E E' : ℕ → ℕ → Type 0) (m m' : MachineState k) (l l' : Ledger) (w : ℕ) → Invariant E m l
      → k.Good m'.book → History k first l' m'.lines m'.book
      → length m'.warp_rows ≡ length m.warp_rows
      → ((v : ℕ) → (v ≡ w → ⊥) → warp_row_of m' v ≡ warp_row_of m v)
      → ((v : ℕ) → (v ≡ w → ⊥) → l'.current v ≡ l.current v)
      → ((v : ℕ) → (v ≡ w → ⊥) → request_of m'.queue v ≡ request_of m.queue v)
      → ((v line t : ℕ) → (v ≡ w → ⊥) → E v line ⊎ Blocked l line t → E' v line ⊎ Blocked l' line t)
      → Matches (warp_row_of m' w) (l'.current w)
      → (is_waiting (warp_row_of m' w).phase ≡ true → Waiter E' m' l' w)
      → (is_waiting (warp_row_of m' w).phase ≡ false → request_of m'.queue w ≡ None)
      → CountsAgree k l' m'.book → Invariant E' m' l'
  one_row_keeps E E' m m' l l' w I good history size warp_rows currents requests blocks mine waiter
      quiet_here tally =
      record {
        good = good;
        history = history;
        warp_rows = λ v. warp_rows_now v (cases_eq v w);
        size = let a = I.size in omega arith;
        waiters = λ v. waiters_now v (cases_eq v w);
        quiet = λ v. quiet_now v (cases_eq v w);
        counts = tally;
      }
    where
      warp_rows_now : (v : ℕ) → (v ≡ w) ⊎ (v ≡ w → ⊥) → Matches (warp_row_of m' v) (l'.current v)
      warp_rows_now v (inl e) = subst (λ u. Matches (warp_row_of m' u) (l'.current u)) (sym e) mine
      warp_rows_now v (inr n) =
          subst (λ warp_row. Matches warp_row (l'.current v)) (sym (warp_rows v n))
          (subst (Matches (warp_row_of m v)) (sym (currents v n)) (I.warp_rows v))

      waiters_now :
          (v : ℕ) → (v ≡ w) ⊎ (v ≡ w → ⊥) → is_waiting (warp_row_of m' v).phase ≡ true
          → Waiter E' m' l' v
      waiters_now v (inl e) p =
          subst (Waiter E' m' l') (sym e)
          (waiter (subst (λ u. is_waiting (warp_row_of m' u).phase ≡ true) e p))
      waiters_now v (inr n) p =
          let same = warp_rows v n in
          let old = I.waiters v
          (subst (λ (warp_row : WarpRow). is_waiting warp_row.phase ≡ true) same p) in
          record {
            request = old.request;
            requested = requests v n ∙ old.requested;
            line_low = old.line_low;
            there = old.there;
            blocked =
                subst
                (λ (warp_row : WarpRow). E' v old.request.line
                ⊎ Blocked l' old.request.line warp_row.stamp)
                (sym same) (blocks v old.request.line (warp_row_of m v).stamp n old.blocked);
          }

      quiet_now :
          (v : ℕ) → (v ≡ w) ⊎ (v ≡ w → ⊥) → is_waiting (warp_row_of m' v).phase ≡ false
          → request_of m'.queue v ≡ None
      quiet_now v (inl e) p =
          ap (request_of m'.queue) e
          ∙ quiet_here (subst (λ u. is_waiting (warp_row_of m' u).phase ≡ false) e p)
      quiet_now v (inr n) p =
          requests v n ∙ I.quiet v
          (subst (λ (warp_row : WarpRow). is_waiting warp_row.phase ≡ false) (warp_rows v n) p)

  -- Phases, stamps and queue stay, and held lines stay held.
  pub same_phases_keep :
      (E : ℕ → ℕ → Type 0) (m m' : MachineState k) (l l' : Ledger) → Invariant E m l
      → k.Good m'.book → History k first l' m'.lines m'.book
      → length m'.warp_rows ≡ length m.warp_rows → m'.queue ≡ m.queue
      → ((v : ℕ) → (warp_row_of m' v).phase ≡ (warp_row_of m v).phase)
      → ((v : ℕ) → (warp_row_of m' v).stamp ≡ (warp_row_of m v).stamp)
      → ((h line t : ℕ) → hold l h line ≡ Some t → hold l' h line ≡ Some t)
      → ((v : ℕ) → Matches (warp_row_of m' v) (l'.current v))
      → CountsAgree k l' m'.book → Invariant E m' l'
  same_phases_keep E m m' l l' I good history size queue phases stamps holds warp_rows counts =
      record {
        good = good;
        history = history;
        warp_rows = warp_rows;
        size = let a = I.size in omega arith;
        waiters =
            λ v p.
            let old = I.waiters v (ap is_waiting (sym (phases v)) ∙ p) in
            record {
              request = old.request;
              requested = ap (λ q. request_of q v) queue ∙ old.requested;
              line_low = old.line_low;
              there = old.there;
              blocked =
                  subst (λ t. E v old.request.line ⊎ Blocked l' old.request.line t) (sym (stamps v))
                  (⊎_elim inl
                  (λ (b : Blocked l old.request.line (warp_row_of m v).stamp).
                  inr
                  (record {
                    by_warp = b.by_warp;
                    at_stamp = b.at_stamp;
                    is_held = holds b.by_warp old.request.line b.at_stamp b.is_held;
                    falls = b.falls;
                  }))
                  old.blocked);
            };
        quiet = λ v p. ap (λ q. request_of q v) queue
            ∙ I.quiet v (ap is_waiting (sym (phases v)) ∙ p);
        counts = counts;
      }

  -- One warp's transaction is replaced in the ledger, and the others stay.
  pub current_mine : (l : Ledger) (w : ℕ) (o : Option Transaction)
      → (with_current l w o).current w ≡ o
  current_mine l w o = ap (λ b. cond b o (l.current w)) (eqb_refl w)

  pub current_other :
      (l : Ledger) (w : ℕ) (o : Option Transaction) (v : ℕ) → (v ≡ w → ⊥)
      → (with_current l w o).current v ≡ l.current v
  current_other l w o v n = ap (λ b. cond b o (l.current v)) (ne_eqb v w n)

  -- A warp that holds a line has a transaction that stored to it.
  pub holds_line :
      (l : Ledger) (w line t : ℕ) → hold l w line ≡ Some t
      → (tx : Transaction) × (l.current w ≡ Some tx) × (is_written tx.actions line ≡ true)
      × (tx.stamp ≡ t)
  holds_line l w line t e = step (l.current w) refl e
    where
      inner :
          (tx : Transaction) → l.current w ≡ Some tx → (b : Bool) → is_written tx.actions line ≡ b
          → cond b (Some tx.stamp) None ≡ Some t
          → (tx : Transaction) × (l.current w ≡ Some tx) × (is_written tx.actions line ≡ true)
          × (tx.stamp ≡ t)
      inner tx p true q r = (tx, p, q, (cc))
      inner tx p false q r = let z : ◌≡◌ {A = ℕ} 0 1 = cc in absurd (omega arith)

      step :
          (o : Option Transaction) → l.current w ≡ o → hold_in o line ≡ Some t
          → (tx : Transaction) × (l.current w ≡ Some tx) × (is_written tx.actions line ≡ true)
          × (tx.stamp ≡ t)
      step None p q = let z : ◌≡◌ {A = ℕ} 0 1 = cc in absurd (omega arith)
      step (Some tx) p q = inner tx p (is_written tx.actions line) refl q

  module _ (keeps : Keeps k) (E : ℕ → ℕ → Type 0) (m : MachineState k) (l : Ledger)
      (I : Invariant E m l)
      (w : ℕ) where
    -- A warp with a transaction.
    module _ (tx : Transaction) (mine : l.current w ≡ Some tx) where
      pub running : Running (warp_row_of m w) tx
      running = subst (Matches (warp_row_of m w)) mine (I.warp_rows w)

      pub warp_is : tx.warp ≡ w
      warp_is = (I.history.here w tx mine).0

      pub warp_low : w < 32
      warp_low = (I.history.here w tx mine).1

      pub in_machine : w < length m.warp_rows
      in_machine = busy_low m w running.busy

      -- Held lines stay held after one more load or store.
      joined_holds :
          (d : Action) → ((n : ℕ) → is_written tx.actions n ≡ true
          → is_written (d ∷ tx.actions) n ≡ true)
          → (h line t : ℕ) → hold l h line ≡ Some t
          → hold (with_current l w (Some (with_action tx d))) h line ≡ Some t
      joined_holds d to h line t e = step (eqb h w) refl
        where
          step : (b : Bool) → eqb h w ≡ b
              → hold_in (cond b (Some (with_action tx d)) (l.current h)) line ≡ Some t
          step true p =
              let q = holds_line l h line t e in
              let same : l.current h ≡ Some tx = ap l.current (eqb-true h w p) ∙ mine in
              let again = q.1 in
              let one : q.0 ≡ tx = cc in
              let x : is_written tx.actions line ≡ true =
              subst (λ (u : Transaction). is_written u.actions line ≡ true) one q.2
              in
              hold_writes (with_action tx d) line (to line x)
              ∙ ap Some (ap (λ (u : Transaction). u.stamp) (sym one) ∙ q.3)
          step false p = e

      -- The ledger after one more load or store by this warp. Its row may log the store.
      abbrev pub ledger_with_action : (Transaction → Action) → Ledger
      ledger_with_action action =
          with_current l w (option_map (λ t. with_action t (action t)) (l.current w))

      pub action_keeps :
          (m' : MachineState k) (action : Transaction → Action) → k.Good m'.book
          → History k first (ledger_with_action action) m'.lines m'.book
          → length m'.warp_rows ≡ length m.warp_rows → m'.queue ≡ m.queue
          → ((v : ℕ) → (warp_row_of m' v).phase ≡ (warp_row_of m v).phase)
          → ((v : ℕ) → (warp_row_of m' v).stamp ≡ (warp_row_of m v).stamp)
          → ((v : ℕ) → (v ≡ w → ⊥) → warp_row_of m' v ≡ warp_row_of m v)
          → ((n : ℕ) → is_written tx.actions n ≡ true
          → is_written (action tx ∷ tx.actions) n ≡ true)
          → (warp_row_of m' w).log ≡ transaction_stores (action tx ∷ tx.actions)
          → CountsAgree k (ledger_with_action action) m'.book
          → Invariant E m' (ledger_with_action action)
      action_keeps m' action good history size queue phases stamps others to log counts =
          same_phases_keep E m m' l (ledger_with_action action) I good history size queue phases
          stamps
          (λ h line t e.
          subst (λ o. hold (with_current l w (option_map (λ t. with_action t (action t)) o)) h line
          ≡ Some t) (sym mine)
          (joined_holds (action tx) to h line t e))
          (λ v. match v (cases_eq v w)) counts
        where
          match :
              (v : ℕ) → (v ≡ w) ⊎ (v ≡ w → ⊥)
              → Matches (warp_row_of m' v) ((ledger_with_action action).current v)
          match v (inl e) =
              subst
              (λ u. Matches (warp_row_of m' u) ((ledger_with_action action).current u))
              (sym e)
              (subst (Matches (warp_row_of m' w))
              (sym (current_mine l w (option_map (λ t. with_action t (action t)) (l.current w))
              ∙ ap (option_map (λ t. with_action t (action t))) mine))
              (record {
                busy = ap is_idle (phases w) ∙ running.busy;
                same_stamp = running.same_stamp ∙ sym (stamps w);
                same_log = log;
                in_clock = let a = running.in_clock in let b = stamps w in omega arith;
              }))
          match v (inr n) =
              subst (λ warp_row. Matches warp_row ((ledger_with_action action).current v))
              (sym (others v n))
              (subst (Matches (warp_row_of m v))
              (sym (current_other l w (option_map (λ t. with_action t (action t)) (l.current w)) v
              n))
              (I.warp_rows v))
