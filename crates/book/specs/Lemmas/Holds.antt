-- An entry's hold: how many stores it counts, and its owner.
use Rattle.std.specs.Prelude.{unwrap_or}
use Rattle.std.specs.Prelude.{◌≡◌, ℕ, zero, suc, ◌+◌, ◌<◌, true, false, not, Some, None, Option}
use Rattle.std.specs.Prelude.{◌==◌}
use Rattle.std.proofs.Common.{sym, ◌∙◌}
use Rattle.std.proofs.Math.Path.{refl, ap}
use Rattle.std.specs.Coded.{le_prop}
use Rattle.std.proofs.Math.Nat.{zero-lt-suc}
use native.Mathlib.Omega.{arith}
use Rattle.std.proofs.lemmas.Bool.{not-true, not-false, eqb-true, eqb-false}
use Rattle.book.specs.Entries.{hold_stores, hold_owner, entry_stores, entry_owner, entry_after_add}
use Rattle.book.specs.Entries.{hold_of}
use Rattle.book.specs.declared.entry.Hold.{Hold}
use Rattle.book.specs.declared.entry.Entry.{Entry}

pub positive_unless_zero : (n : ℕ) → not (n == 0) ≡ true → 0 < n
positive_unless_zero n h = let ne = eqb-false n 0 (not-true (n == 0) h) in omega arith

-- A hold made with a number of stores has that number.
pub hold_stores-hold_of : (warp n : ℕ) → hold_stores (hold_of warp n) ≡ n
hold_stores-hold_of warp zero = refl
hold_stores-hold_of warp (suc n) = refl

-- A hold is determined by its warp and its number of stores, whatever the proof that it has some.
pub hold_is_hold_of : (hold : Option Hold)
    → hold ≡ hold_of (unwrap_or (hold_owner hold) 0) (hold_stores hold)
hold_is_hold_of None = refl
hold_is_hold_of (Some hold) = by hold.stores hold.some
  where
    by : (n : ℕ) (some : 0 < n)
        → Some (record { warp = hold.warp; stores = n; some = some }) ≡ hold_of hold.warp n
    by zero some = absurd (omega arith)
    by (suc n) some =
        ap (λ p. Some (record { warp = hold.warp; stores = suc n; some = p }))
        (le_prop some (zero-lt-suc n))

-- A line has an owner exactly while stores hold it.
hold_owner-held : (h : Option Hold) → 0 < hold_stores h
    → hold_owner h ≡ Some (unwrap_or (hold_owner h) 0)
hold_owner-held None some = absurd (omega arith)
hold_owner-held (Some hold) some = refl

pub reserved_has_owner : (e : Entry) → not (entry_stores e == 0) ≡ true
    → entry_owner e ≡ Some (unwrap_or (entry_owner e) 0)
reserved_has_owner e h = hold_owner-held e.hold (positive_unless_zero (entry_stores e) h)

pub hold_owner-free : (h : Option Hold) → hold_stores h ≡ 0 → hold_owner h ≡ None
hold_owner-free None none = refl
hold_owner-free (Some hold) none = absurd (let some = hold.some in omega arith)

pub free_has_no_owner : (e : Entry) → not (entry_stores e == 0) ≡ false → entry_owner e ≡ None
free_has_no_owner e h =
    hold_owner-free e.hold (eqb-true (entry_stores e) 0 (not-false (entry_stores e == 0) h))

-- One more store keeps the owner of some stores, and so that of a reserved line.
hold_owner-hold_of : (n w : ℕ) → 0 < n → hold_owner (hold_of w n) ≡ Some w
hold_owner-hold_of zero w some = absurd (omega arith)
hold_owner-hold_of (suc n) w some = refl

pub hold_owner-one_more : (n w : ℕ) → 0 < n
    → hold_owner (hold_of w (n + 1)) ≡ hold_owner (hold_of w n)
hold_owner-one_more n w some = hold_owner-hold_of (n + 1) w (omega arith)
    ∙ sym (hold_owner-hold_of n w some)

pub entry_owner-after_add : (e : Entry) → 0 < entry_stores e
    → entry_owner (entry_after_add e) ≡ entry_owner e
entry_owner-after_add e held =
    hold_owner-one_more (entry_stores e) (unwrap_or (entry_owner e) 0) held
    ∙ ap hold_owner (sym (hold_is_hold_of e.hold))
