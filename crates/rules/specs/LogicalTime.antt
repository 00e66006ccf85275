-- Logical time, conflicts, and the orders in which conflicting transactions keep to logical time.
use Rattle.std.specs.Prelude.{◌≡◌, ℕ, ◌<◌, Bool, true, ◌&&◌, ◌||◌, List, length, ◌==◌, nat_lt}
use Rattle.book.specs.Time.{earlier}
use Rattle.rules.specs.Lists.{is_before}
use Rattle.rules.specs.Transactions.{is_written, is_read, transaction_named, Action, Transaction}

-- One committed transaction is earlier than another in logical time: by its stamp at its begin,
-- then by its warp, then by its place among the commits.
abbrev pub is_earlier : List Transaction → ℕ → ℕ → Bool
is_earlier txs a b =
    let s = transaction_named txs a in
    let t = transaction_named txs b in
    earlier (s.stamp, s.warp) (t.stamp, t.warp)
    || (s.stamp == t.stamp && (s.warp == t.warp && nat_lt a b))

-- The transaction loaded or stored to the line.
abbrev pub is_used : List Action → ℕ → Bool
is_used actions line = is_written actions line || is_read actions line

-- Two transactions conflict at a line: both use it, and at least one stored to it.
abbrev pub is_conflict_at : List Action → List Action → ℕ → Bool
is_conflict_at a b line =
    is_used a line && (is_used b line && (is_written a line || is_written b line))

-- Two transactions conflict at some line.
abbrev pub Conflict : List Transaction → ℕ → ℕ → Type 0
Conflict txs a b =
    let s = transaction_named txs a in
    let t = transaction_named txs b in
    (line : ℕ) × (is_conflict_at s.actions t.actions line ≡ true)

-- Of every two transactions that conflict, the earlier in logical time comes first in the order.
abbrev pub IsInLogicalOrder : List Transaction → List ℕ → Type 0
IsInLogicalOrder txs order =
    (a b : ℕ) → a < length txs → b < length txs → Conflict txs a b → is_earlier txs a b ≡ true
    → is_before order a b ≡ true
