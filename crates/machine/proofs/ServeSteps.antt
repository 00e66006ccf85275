-- Serving a load or a store leaves what the rules say.
use Rattle.std.proofs.Common.{◌≡◌, ℕ, ◌<◌, true, List, length, set, sym, ap, ◌∙◌, subst}
use Rattle.std.proofs.lemmas.Bool.{ltb-true}
use Rattle.protocol.specs.Limits.{log_limit}
use Rattle.protocol.specs.declared.answer.Outcome.TheVariants.{Value, Stored}
use Rattle.memory.specs.Lines.{Lines}
use Rattle.book.specs.Meaning.{Kind, state_after_add}
use Rattle.rules.specs.State.{WarpRow, MachineState, row_with_store, with_book, warp_row_at}
use Rattle.rules.specs.State.{warp_row_of}
use Rattle.rules.specs.Serving.{memory_value, with_read_noted, served_on_free_line}
use Rattle.rules.specs.Serving.{served_on_own_line}
use Rattle.rules.specs.declared.state.Access.{Access}
use Rattle.rules.specs.declared.state.Access.TheVariants.{Read, Write}
use Rattle.rules.specs.declared.state.Request.{Request}
use Rattle.machine.specs.Warps.{has_room}
use Rattle.machine.specs.CallParts.{own_value, with_line_reserved}

module _ {k : Kind} where
  abbrev pub built : Lines → k.State → List WarpRow → List Request → MachineState k
  built lines book warp_rows queue =
      record { lines = lines; book = book; warp_rows = warp_rows; queue = queue }

  -- A machine whose rows and queue are changed last.
  pub with_rows_and_queue :
      (m n : MachineState k) (warp_rows : List WarpRow) (queue : List Request) (f : List WarpRow
      → List WarpRow)
      (q : List Request → List Request) → m ≡ n → warp_rows ≡ f m.warp_rows → queue ≡ q m.queue
      → built m.lines m.book warp_rows queue
      ≡ built n.lines n.book (f n.warp_rows) (q n.queue)
  with_rows_and_queue m n warp_rows queue f q e a b =
      ap (λ ls. built m.lines m.book ls queue) a
      ∙ ap (λ qs. built m.lines m.book (f m.warp_rows) qs) b
      ∙ ap (λ (x : MachineState k). built x.lines x.book (f x.warp_rows) (q x.queue)) e

  module _ (m : MachineState k) (w line : ℕ) where
    abbrev rows_with_store : ℕ → List WarpRow → List WarpRow
    rows_with_store value ls = set ls w (row_with_store (warp_row_at ls w) line value)

    pub read_served : (after : MachineState k) (access : Access) → access ≡ Read
        → after ≡ with_read_noted m w line
        → after ≡ (served_on_free_line m w line access).machine
    unfolding served_on_free_line
    read_served after access is e = e ∙ ap (λ a. (served_on_free_line m w line a).machine) (sym is)

    pub read_value : (value : ℕ) (access : Access) → access ≡ Read → value ≡ memory_value m line
        → Value value ≡ (served_on_free_line m w line access).outcome
    unfolding served_on_free_line
    read_value value access is e =
        ap Value e ∙ ap (λ a. (served_on_free_line m w line a).outcome) (sym is)

    pub write_served :
        (mid : MachineState k) (warp_rows : List WarpRow) (queue : List Request) (value : ℕ)
        (access : Access)
        → access ≡ Write value
        → mid ≡ with_line_reserved m w line → warp_rows ≡ rows_with_store value mid.warp_rows
        → queue ≡ mid.queue
        → built mid.lines mid.book warp_rows queue ≡ (served_on_free_line m w line access).machine
    unfolding served_on_free_line
    write_served mid warp_rows queue value access is e a b =
        with_rows_and_queue mid (with_line_reserved m w line) warp_rows queue
        (rows_with_store value) (λ q. q) e a b
        ∙ ap (λ a. (served_on_free_line m w line a).machine) (sym is)

    pub write_stored : (value : ℕ) (access : Access) → access ≡ Write value
        → Stored ≡ (served_on_free_line m w line access).outcome
    unfolding served_on_free_line
    write_stored value access is = ap (λ a. (served_on_free_line m w line a).outcome) (sym is)

    pub own_read_served : (after : MachineState k) (access : Access) → access ≡ Read
        → after ≡ with_read_noted m w line
        → after ≡ (served_on_own_line m w line access).machine
    unfolding served_on_own_line
    own_read_served after access is e =
        e ∙ ap (λ a. (served_on_own_line m w line a).machine) (sym is)

    pub own_read_value : (value : ℕ) (access : Access) → access ≡ Read → value ≡ own_value m w line
        → Value value ≡ (served_on_own_line m w line access).outcome
    unfolding served_on_own_line
    own_read_value value access is e =
        ap Value e ∙ ap (λ a. (served_on_own_line m w line a).outcome) (sym is)

    pub own_write_served :
        (book : k.State) (warp_rows : List WarpRow) (queue : List Request) (value : ℕ)
        (access : Access)
        → access ≡ Write value → book ≡ state_after_add k m.book line
        → warp_rows ≡ rows_with_store value m.warp_rows → queue ≡ m.queue
        → built m.lines book warp_rows queue ≡ (served_on_own_line m w line access).machine
    unfolding served_on_own_line
    own_write_served book warp_rows queue value access is e a b =
        with_rows_and_queue (with_book m book)
        (with_book m (state_after_add k m.book line)) warp_rows queue (rows_with_store value)
        (λ q. q)
        (ap (with_book m) e) a b
        ∙ ap (λ a. (served_on_own_line m w line a).machine) (sym is)

    pub own_write_stored : (value : ℕ) (access : Access) → access ≡ Write value
        → Stored ≡ (served_on_own_line m w line access).outcome
    unfolding served_on_own_line
    own_write_stored value access is = ap (λ a. (served_on_own_line m w line a).outcome) (sym is)

    -- Room for an access that is a store is a free place in the log.
    pub room_for_store :
        (access : Access) (value : ℕ) → access ≡ Write value
        → has_room (warp_row_of m w) access ≡ true
        → length (warp_row_of m w).log < log_limit
    room_for_store access value is room =
        ltb-true (length (warp_row_of m w).log) log_limit
        (subst (λ a. has_room (warp_row_of m w) a ≡ true) is room)
