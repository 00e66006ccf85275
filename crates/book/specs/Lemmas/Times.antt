-- The order of times and of stamps, and bounds of the later and the earlier of two.
use Rattle.std.specs.Prelude.{◌≡◌, ℕ, ◌≤◌, false}
use Rattle.std.proofs.Common.{arith}
use Rattle.std.proofs.lemmas.Bool.Decides.{nat_tests}
use Rattle.book.specs.Time.{Time, earlier}
use Rattle.book.specs.Entries.{later_of, earlier_of, later_stamps, earlier_stamps}
use Rattle.book.specs.declared.entry.Stamps.{Stamps}

-- Neither stamp of the second is earlier than that of the first.
abbrev pub NoEarlier : Stamps → Stamps → Type 0
NoEarlier a b = (a.write ≤ b.write) × (earlier b.read a.read ≡ false)

pub not_earlier_than_itself : (a : Time) → earlier a a ≡ false
not_earlier_than_itself a = grind (arith, nat_tests)

pub not_earlier_chain : (a b c : Time) → earlier b a ≡ false → earlier c b ≡ false
    → earlier c a ≡ false
not_earlier_chain a b c p q = grind (arith, nat_tests)

pub later_of_first : (a b : Time) → earlier (later_of a b) a ≡ false
later_of_first a b = grind (arith, nat_tests)

pub later_of_second : (a b : Time) → earlier (later_of a b) b ≡ false
later_of_second a b = grind (arith, nat_tests)

pub later_of_bound : (a b : Time) (m : ℕ) → a.0 ≤ m → b.0 ≤ m → (later_of a b).0 ≤ m
later_of_bound a b m p q = grind (arith, nat_tests)

pub earlier_of_reaches : (a b c : Time) → earlier a c ≡ false → earlier b c ≡ false
    → earlier (earlier_of a b) c ≡ false
earlier_of_reaches a b c p q = grind (arith, nat_tests)

pub earlier_of_first : (a b : Time) → earlier a (earlier_of a b) ≡ false
earlier_of_first a b = grind (arith, nat_tests)

pub earlier_of_second : (a b : Time) → earlier b (earlier_of a b) ≡ false
earlier_of_second a b = grind (arith, nat_tests)

earlier_of_grows :
    (a b c d : Time) → earlier c a ≡ false → earlier d b ≡ false
    → earlier (earlier_of c d) (earlier_of a b) ≡ false
earlier_of_grows a b c d p q =
    earlier_of_reaches c d (earlier_of a b)
    (not_earlier_chain (earlier_of a b) a c (earlier_of_first a b) p)
    (not_earlier_chain (earlier_of a b) b d (earlier_of_second a b) q)

pub earlier_of_bound : (a b : Time) (m : ℕ) → a.0 ≤ m → (earlier_of a b).0 ≤ m
earlier_of_bound a b m p = grind (arith, nat_tests)

-- A time that is not earlier than another has no smaller stamp.
pub stamp_bound_by_time : (a b : Time) → earlier b a ≡ false → a.0 ≤ b.0
stamp_bound_by_time a b p = grind (arith, nat_tests)

pub no_earlier_than_itself : (a : Stamps) → NoEarlier a a
no_earlier_than_itself a = (omega arith, not_earlier_than_itself a.read)

pub no_earlier_chain : (a b c : Stamps) → NoEarlier a b → NoEarlier b c → NoEarlier a c
no_earlier_chain a b c p q = (omega arith, not_earlier_chain a.read b.read c.read p.1 q.1)

pub later_stamps_first : (a b : Stamps) → NoEarlier a (later_stamps a b)
later_stamps_first a b = (omega arith, later_of_first a.read b.read)

pub later_stamps_second : (a b : Stamps) → NoEarlier b (later_stamps a b)
later_stamps_second a b = (omega arith, later_of_second a.read b.read)

pub earlier_stamps_reach : (s a b : Stamps) → NoEarlier s a → NoEarlier s b
    → NoEarlier s (earlier_stamps a b)
earlier_stamps_reach s a b p q = (omega arith, earlier_of_reaches a.read b.read s.read p.1 q.1)

pub earlier_stamps_grow : (a b c d : Stamps) → NoEarlier a c → NoEarlier b d
    → NoEarlier (earlier_stamps a b) (earlier_stamps c d)
earlier_stamps_grow a b c d p q =
    (omega arith, earlier_of_grows a.read b.read c.read d.read p.1 q.1)

-- No time is earlier than the first one. A time not earlier than two others is not earlier than the
-- later of them.
pub not_earlier_than_zero : (a : Time) → earlier a (0, 0) ≡ false
not_earlier_than_zero a = grind (arith, nat_tests)

pub later_of_least : (a b c : Time) → earlier c a ≡ false → earlier c b ≡ false
    → earlier c (later_of a b) ≡ false
later_of_least a b c p q = grind (arith, nat_tests)
