-- Raising entries of the filter makes no stamp earlier, and raises the stamps of the line as far as
-- wanted.
use Rattle.std.specs.Prelude.{◌≡◌, ℕ, zero, suc, ◌<◌, ◌≤◌, List, [], ◌∷◌, length, slice_index}
use Rattle.std.specs.Prelude.{slice_index_or, slice_set}
use Rattle.std.proofs.Common.{sym, subst, ◌∙◌, get_or-set_same}
use native.Mathlib.Omega.{arith}
use Rattle.std.proofs.Math.ListN.{length-set}
use Rattle.book.specs.Entries.{no_stamps, later_stamps, earlier_stamps}
use Rattle.condensed.specs.Filter.{FourWays, AreInside, way_at, stamps_at, raised_at, filter_stamps}
use Rattle.condensed.specs.Filter.{filter_raised_to}
use Rattle.book.specs.declared.entry.Stamps.{Stamps}
use Rattle.book.specs.Lemmas.Times.{NoEarlier, no_earlier_than_itself, no_earlier_chain}
use Rattle.book.specs.Lemmas.Times.{later_stamps_first, later_stamps_second, earlier_stamps_reach}
use Rattle.book.specs.Lemmas.Times.{earlier_stamps_grow, earlier_of_bound}
use Rattle.book.specs.Lemmas.ListSet.{holds_after_set}

-- Each entry of the second filter is no earlier than that of the first.
abbrev pub Grown : List (List Stamps) → List (List Stamps) → Type 0
Grown f g = (way k : ℕ) → NoEarlier (stamps_at f way k) (stamps_at g way k)

grown_chain : (f g h : List (List Stamps)) → Grown f g → Grown g h → Grown f h
grown_chain f g h p q way k =
    no_earlier_chain (stamps_at f way k) (stamps_at g way k) (stamps_at h way k) (p way k) (q way k)

-- One entry is raised.
way_grows :
    (xs : List Stamps) (i : ℕ) (s : Stamps) (k : ℕ)
    → NoEarlier (slice_index_or xs k no_stamps)
    (slice_index_or (slice_set xs i (later_stamps (slice_index_or xs i no_stamps) s)) k no_stamps)
way_grows [] i s k = no_earlier_than_itself no_stamps
way_grows (x ∷ xs) zero s zero = later_stamps_first x s
way_grows (x ∷ xs) zero s (suc k) = no_earlier_than_itself (slice_index_or xs k no_stamps)
way_grows (x ∷ xs) (suc i) s zero = no_earlier_than_itself x
way_grows (x ∷ xs) (suc i) s (suc k) = way_grows xs i s k

at_grows : (f : List (List Stamps)) (way i : ℕ) (s : Stamps) → Grown f (raised_at f way i s)
at_grows [] way i s other k = no_earlier_than_itself no_stamps
at_grows (x ∷ xs) zero i s zero k = way_grows x i s k
at_grows (x ∷ xs) zero i s (suc other) k = no_earlier_than_itself (stamps_at xs other k)
at_grows (x ∷ xs) (suc way) i s zero k = no_earlier_than_itself (slice_index_or x k no_stamps)
at_grows (x ∷ xs) (suc way) i s (suc other) k = at_grows xs way i s other k

module _ (f : List (List Stamps)) (ways : FourWays f) (way i : ℕ) (lt : way < 4) (s : Stamps) where
  abbrev raised_way : List Stamps
  raised_way = slice_set (way_at f way) i (later_stamps (stamps_at f way i) s)

  at_ways : FourWays (raised_at f way i s)
  at_ways =
      record {
        four = length-set f way raised_way ∙ ways.four;
        each = λ other inside.
            holds_after_set (λ xs. length xs ≡ 64) f way other raised_way []
            (length-set (way_at f way) i _ ∙ ways.each way lt)
            (ways.each other inside);
      }

  at_reaches : i < 64 → NoEarlier s (stamps_at (raised_at f way i s) way i)
  at_reaches inside =
      let four = ways.four in
      let each = ways.each way lt in
      subst (λ xs. NoEarlier s (slice_index_or xs i no_stamps))
      (sym (get_or-set_same f way raised_way [] (omega arith)))
      (subst (NoEarlier s)
      (sym (get_or-set_same (way_at f way) i (later_stamps (stamps_at f way i) s) no_stamps
      (omega arith)))
      (later_stamps_second (stamps_at f way i) s))

module _ (f : List (List Stamps)) (four : List ℕ) (s : Stamps) where
  abbrev one : List (List Stamps)
  one = raised_at f 0 (slice_index four 0) s

  abbrev two : List (List Stamps)
  two = raised_at one 1 (slice_index four 1) s

  abbrev three : List (List Stamps)
  three = raised_at two 2 (slice_index four 2) s

  pub raised_ways : FourWays f → FourWays (filter_raised_to f four s)
  unfolding filter_raised_to
  raised_ways ways =
      at_ways three
      (at_ways two (at_ways one (at_ways f ways 0 _ (omega arith) s) 1 _ (omega arith) s) 2 _
      (omega arith) s)
      3 _ (omega arith) s

  from_one : Grown one (filter_raised_to f four s)
  unfolding filter_raised_to
  from_one =
      grown_chain one two (filter_raised_to f four s) (at_grows one 1 _ s)
      (grown_chain two three (filter_raised_to f four s) (at_grows two 2 _ s)
      (at_grows three 3 _ s))

  from_two : Grown two (filter_raised_to f four s)
  unfolding filter_raised_to
  from_two = grown_chain two three (filter_raised_to f four s) (at_grows two 2 _ s)
      (at_grows three 3 _ s)

  from_three : Grown three (filter_raised_to f four s)
  unfolding filter_raised_to
  from_three = at_grows three 3 _ s

  pub raised_grows : Grown f (filter_raised_to f four s)
  raised_grows =
      grown_chain f one (filter_raised_to f four s) (at_grows f 0 (slice_index four 0) s) from_one

  -- What holds of every entry, and of every entry raised to the stamps, holds of every entry after.
  pub raised_each :
      (P : Stamps → Type 0) → ((x : Stamps) → P x → P (later_stamps x s))
      → ((way k : ℕ) → P (stamps_at f way k))
      → (way k : ℕ) → P (stamps_at (filter_raised_to f four s) way k)
  unfolding filter_raised_to
  raised_each P up all = step three 3 _ (step two 2 _ (step one 1 _ (step f 0 _ all)))
    where
      step :
          (g : List (List Stamps)) (way i : ℕ) → ((other k : ℕ) → P (stamps_at g other k))
          → (other k : ℕ)
          → P (stamps_at (raised_at g way i s) other k)
      step g way i h other k =
          holds_after_set (λ xs. P (slice_index_or xs k no_stamps)) g way other _ []
          (holds_after_set P (way_at g way) i k (later_stamps (stamps_at g way i) s) no_stamps
          (up (stamps_at g way i) (h way i))
          (h way k))
          (h other k)

  pub raised_reaches : FourWays f → AreInside four
      → NoEarlier s (filter_stamps (filter_raised_to f four s) four)
  unfolding filter_stamps filter_raised_to
  raised_reaches ways inside =
      let w1 : FourWays one = at_ways f ways 0 _ (omega arith) s in
      let w2 : FourWays two = at_ways one w1 1 _ (omega arith) s in
      let w3 : FourWays three = at_ways two w2 2 _ (omega arith) s in
      let end : List (List Stamps) = filter_raised_to f four s in
      earlier_stamps_reach s _ _
      (earlier_stamps_reach s _ _
      (no_earlier_chain s (stamps_at one 0 (slice_index four 0))
      (stamps_at end 0 (slice_index four 0))
      (at_reaches f ways 0 (slice_index four 0) (omega arith) s inside.in_0)
      (from_one 0 (slice_index four 0)))
      (no_earlier_chain s (stamps_at two 1 (slice_index four 1))
      (stamps_at end 1 (slice_index four 1))
      (at_reaches one w1 1 (slice_index four 1) (omega arith) s inside.in_1)
      (from_two 1 (slice_index four 1))))
      (earlier_stamps_reach s _ _
      (no_earlier_chain s (stamps_at three 2 (slice_index four 2))
      (stamps_at end 2 (slice_index four 2))
      (at_reaches two w2 2 (slice_index four 2) (omega arith) s inside.in_2)
      (from_three 2 (slice_index four 2)))
      (at_reaches three w3 3 (slice_index four 3) (omega arith) s inside.in_3))

pub filter_stamps_grow :
    (f g : List (List Stamps)) (four : List ℕ) → Grown f g
    → NoEarlier (filter_stamps f four) (filter_stamps g four)
unfolding filter_stamps
filter_stamps_grow f g four up =
    let a : ℕ = slice_index four 0 in
    let b : ℕ = slice_index four 1 in
    let c : ℕ = slice_index four 2 in
    let d : ℕ = slice_index four 3 in
    earlier_stamps_grow (earlier_stamps (stamps_at f 0 a) (stamps_at f 1 b))
    (earlier_stamps (stamps_at f 2 c) (stamps_at f 3 d))
    (earlier_stamps (stamps_at g 0 a) (stamps_at g 1 b))
    (earlier_stamps (stamps_at g 2 c) (stamps_at g 3 d))
    (earlier_stamps_grow (stamps_at f 0 a) (stamps_at f 1 b) (stamps_at g 0 a) (stamps_at g 1 b)
    (up 0 a) (up 1 b))
    (earlier_stamps_grow (stamps_at f 2 c) (stamps_at f 3 d) (stamps_at g 2 c) (stamps_at g 3 d)
    (up 2 c) (up 3 d))

module _ (f : List (List Stamps)) (four : List ℕ) (m : ℕ) where
  pub filter_stamps_write_bound : ((way k : ℕ) → (stamps_at f way k).write ≤ m)
      → (filter_stamps f four).write ≤ m
  unfolding filter_stamps
  filter_stamps_write_bound all = let h = all 0 (slice_index four 0) in omega arith

  pub filter_stamps_read_bound : ((way k : ℕ) → (stamps_at f way k).read.0 ≤ m)
      → (filter_stamps f four).read.0 ≤ m
  unfolding filter_stamps
  filter_stamps_read_bound all =
      earlier_of_bound _ _ m (earlier_of_bound _ _ m (all 0 (slice_index four 0)))
