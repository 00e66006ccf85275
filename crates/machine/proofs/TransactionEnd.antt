-- The end of a transaction is that of the rules.
use Rattle.std.proofs.Common.{◌≡◌, ℕ, List, [], ◌∷◌, length, set, refl, ap, ◌∙◌}
use Rattle.book.specs.Meaning.{Kind}
use Rattle.rules.specs.Logs.{LogEntry, logged_lines}
use Rattle.rules.specs.Queue.{Policy}
use Rattle.rules.specs.State.{WarpRow, MachineState, idle_row, warp_row_of}
use Rattle.rules.specs.Ending.{without_lines, after_giving_up, after_end, with_lines_released}
use Rattle.rules.specs.Ending.{after_turns_at_lines}
use Rattle.rules.specs.declared.state.Request.{Request}
use Rattle.machine.proofs.ServeSteps.{built, with_rows_and_queue}

module _ {k : Kind} (policy : Policy k) (m : MachineState k) (w : ℕ) (row : WarpRow) where
  -- The lines are released, the row is changed, and then the requests are retried.
  pub after_giving_up_is :
      (mid after : MachineState k) (warp_rows : List WarpRow) (queue : List Request)
      (lines : List ℕ)
      → mid ≡ with_lines_released m lines → warp_rows ≡ set mid.warp_rows w row → queue ≡ mid.queue
      → after ≡ (after_turns_at_lines policy
      (built mid.lines mid.book warp_rows queue) lines).machine
      → after ≡ (after_giving_up policy m w row lines).machine
  unfolding without_lines after_giving_up
  after_giving_up_is mid after warp_rows queue lines e a b f =
      f ∙ ap (λ x. (after_turns_at_lines policy x lines).machine)
      (with_rows_and_queue mid (with_lines_released m lines) warp_rows queue (λ ls. set ls w row)
      (λ q. q) e a b)

module _ {k : Kind} (policy : Policy k) (m : MachineState k) (w stamp : ℕ) where
  pub after_end_is :
      (after : MachineState k) (log : List LogEntry) (lines : List ℕ)
      → log ≡ (warp_row_of m w).log → lines ≡ logged_lines log
      → after ≡ (after_giving_up policy m w (idle_row stamp) lines).machine
      → after ≡ (after_end policy m w stamp).machine
  unfolding after_end
  after_end_is after log lines is e f =
      f ∙ ap (λ ls. (after_giving_up policy m w (idle_row stamp) ls).machine)
      (e ∙ ap logged_lines is)

  -- A transaction without a store has no line, so nothing is released and nothing is retried.
  none_logged : (log : List LogEntry) → length log ≡ 0 → [] ≡ logged_lines log
  none_logged [] e = refl
  none_logged (s ∷ log) e = cc

  pub after_end_without_stores :
      (warp_rows : List WarpRow) (queue : List Request) → length (warp_row_of m w).log ≡ 0
      → warp_rows ≡ set m.warp_rows w (idle_row stamp) → queue ≡ m.queue
      → built m.lines m.book warp_rows queue ≡ (after_end policy m w stamp).machine
  after_end_without_stores warp_rows queue e a b =
      let none = none_logged (warp_row_of m w).log e in
      after_end_is (built m.lines m.book warp_rows queue) (warp_row_of m w).log [] refl none
      (after_giving_up_is policy m w (idle_row stamp) m
      (built m.lines m.book warp_rows queue) warp_rows queue [] refl a b refl)
