-- What a warp's phase says of its stamp.
use Rattle.std.specs.Prelude.{ℕ, ◌^◌, Bool, true, false}
use Rattle.protocol.specs.Limits.{last_stamp}
use Rattle.protocol.specs.declared.answer.Outcome.{Outcome}
use Rattle.protocol.specs.declared.answer.Outcome.TheVariants.{Value, Stored, Gone}
use Rattle.rules.specs.declared.state.Phase.{Phase}
use Rattle.rules.specs.declared.state.Phase.TheVariants.{Idle, Open, Waiting, Settled}

-- The highest stamp: one more than the largest that a book can hold.
abbrev pub highest_stamp : ℕ
highest_stamp = 2 ^ 32

-- The highest stamp in a phase: no transaction begins past the end of the clock.
abbrev pub highest_stamp_in : Phase → ℕ
highest_stamp_in Idle = highest_stamp
highest_stamp_in Open = last_stamp
highest_stamp_in Waiting = last_stamp
highest_stamp_in (Settled outcome) = last_stamp

-- The stamp at which a warp restarts after an outcome; 0 if its transaction goes on.
abbrev pub next_stamp : Outcome → ℕ
next_stamp (Value value) = 0
next_stamp Stored = 0
next_stamp (Gone cause next) = next

-- The same for the outcome that a phase holds; 0 if it holds none.
abbrev pub next_stamp_in : Phase → ℕ
next_stamp_in Idle = 0
next_stamp_in Open = 0
next_stamp_in Waiting = 0
next_stamp_in (Settled outcome) = next_stamp outcome

-- The warp has a transaction and may go on.
abbrev pub is_open : Phase → Bool
is_open Idle = false
is_open Open = true
is_open Waiting = false
is_open (Settled outcome) = false

-- The warp has an outcome to fetch.
abbrev pub is_settled : Phase → Bool
is_settled Idle = false
is_settled Open = false
is_settled Waiting = false
is_settled (Settled outcome) = true
