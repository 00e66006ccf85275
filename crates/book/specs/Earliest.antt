-- Runs of calls, and that no book has earlier stamps than the exact one.
use Rattle.std.specs.Prelude.{◌≡◌, ℕ, ◌<◌, ◌≤◌, Bool, true, false, cond, List, [], ◌∷◌}
use Rattle.protocol.specs.Limits.{line_limit}
use Rattle.book.specs.Time.{earlier}
use Rattle.book.specs.Meaning.{Kind, IsNew, can_note, can_reserve, can_add, can_release}
use Rattle.book.specs.Exact.{Exact, exact, exact_new}
use Rattle.book.specs.declared.call.BookCall.{BookCall}
use Rattle.book.specs.declared.call.BookCall.TheVariants.{Note, Reserve, Add, Release}

module _ (k : Kind) (s : k.State) where
  -- Whether a call is granted, and the state after it.
  abbrev pub is_granted : BookCall → Bool
  is_granted (Note line t) = can_note k s line t
  is_granted (Reserve line t) = can_reserve k s line t
  is_granted (Add line) = can_add k s line
  is_granted (Release line) = can_release k s line

  abbrev pub state_after_granted : BookCall → k.State
  state_after_granted (Note line t) = k.note s line t
  state_after_granted (Reserve line t) = k.reserve s line t
  state_after_granted (Add line) = k.add s line
  state_after_granted (Release line) = k.release s line

  abbrev pub state_after_call : BookCall → k.State
  state_after_call call = cond (is_granted call) (state_after_granted call) s

-- A book and the exact book get the same calls: those that the first grants. A call that it refuses
-- goes to neither.
abbrev pub both_after_call : (k : Kind) → k.State × Exact → BookCall → k.State × Exact
both_after_call k both call =
    cond (is_granted k both.0 call)
    (state_after_granted k both.0 call, state_after_call exact both.1 call) both

abbrev pub both_after_calls : (k : Kind) → k.State × Exact → List BookCall → k.State × Exact
both_after_calls k both [] = both
both_after_calls k both (call ∷ calls) = both_after_calls k (both_after_call k both call) calls

-- No write stamp and no read mark of the exact book is later than the other book's, nor is its
-- latest stamp, and it grants every call that the other grants.
pub record ExactIsNoLater (k : Kind) (both : k.State × Exact) : Type 0 where
  pub stamps : (n : ℕ) → n < line_limit → exact.write_stamp both.1 n ≤ k.write_stamp both.0 n
  pub marks : (n : ℕ) → n < line_limit
      → earlier (k.read_mark both.0 n) (exact.read_mark both.1 n) ≡ false
  pub latest : exact.latest both.1 ≤ k.latest both.0
  pub grants_too : (call : BookCall) → is_granted k both.0 call ≡ true
      → is_granted exact both.1 call ≡ true

-- After any calls of a new book and a new exact book, the exact book's stamps are no later, and it
-- grants every call that the other grants.
abbrev pub NeverEarlierThanExact : Kind → Type 0
NeverEarlierThanExact k = (s : k.State) → k.Good s → IsNew k s → (calls : List BookCall)
    → ExactIsNoLater k (both_after_calls k (s, exact_new) calls)
