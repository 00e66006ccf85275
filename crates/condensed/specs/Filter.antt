-- The filter: the stamps of many lines in few entries, four ways of 64.
use Rattle.std.specs.Prelude.{◌≡◌, ℕ, Bool, nat_lt, ◌/◌, ◌%◌, ◌<◌, cond, List, [], ◌∷◌}
use Rattle.std.specs.Prelude.{length, get_or, ◌==◌, bit_xor, slice_index, slice_index_or, slice_set}
use Rattle.std.specs.List.{list_all}
use Rattle.book.specs.Entries.{no_stamps, later_stamps, earlier_stamps}
use Rattle.book.specs.declared.entry.Stamps.{Stamps}

-- A line's index in a way: the exclusive or of the way's numbers for the bits set in the line's
-- number, lowest first.
unfoldable pub index_by : List ℕ → ℕ → ℕ
index_by [] line = 0
index_by (number ∷ numbers) line =
    bit_xor (cond (line % 2 == 1) number 0) (index_by numbers (line / 2))

-- Whether all numbers are indices of a way.
abbrev pub all_below_64 : List ℕ → Bool
all_below_64 = list_all (λ number. nat_lt number 64)

-- The numbers of each way.
abbrev pub way_0 : List ℕ
way_0 = 1 ∷ 2 ∷ 4 ∷ 8 ∷ 16 ∷ 32 ∷ 3 ∷ 6 ∷ 12 ∷ 24 ∷ 48 ∷ 33 ∷ []

abbrev pub way_1 : List ℕ
way_1 = 37 ∷ 11 ∷ 22 ∷ 44 ∷ 25 ∷ 50 ∷ 7 ∷ 14 ∷ 28 ∷ 56 ∷ 49 ∷ 35 ∷ []

abbrev pub way_2 : List ℕ
way_2 = 21 ∷ 42 ∷ 5 ∷ 10 ∷ 20 ∷ 40 ∷ 17 ∷ 34 ∷ 13 ∷ 26 ∷ 52 ∷ 41 ∷ []

abbrev pub way_3 : List ℕ
way_3 = 63 ∷ 31 ∷ 47 ∷ 55 ∷ 59 ∷ 61 ∷ 62 ∷ 1 ∷ 9 ∷ 18 ∷ 36 ∷ 27 ∷ []

-- A line's four indices, one in each way.
abbrev pub indices_of : ℕ → List ℕ
indices_of line = index_by way_0 line ∷ index_by way_1 line ∷ index_by way_2 line
    ∷ index_by way_3 line ∷ []

-- Four indices, each within its way.
pub record AreInside (four : List ℕ) : Type 0 where
  pub in_0 : get_or four 0 0 < 64
  pub in_1 : get_or four 1 0 < 64
  pub in_2 : get_or four 2 0 < 64
  pub in_3 : get_or four 3 0 < 64

-- Four ways, each of 64 entries.
pub record FourWays (filter : List (List Stamps)) : Type 0 where
  pub four : length filter ≡ 4
  pub each : (way : ℕ) → way < 4 → length (get_or filter way []) ≡ 64

module _ (filter : List (List Stamps)) where
  abbrev pub way_at : ℕ → List Stamps
  way_at way = get_or filter way []

  abbrev pub stamps_at : ℕ → ℕ → Stamps
  stamps_at way index = slice_index_or (way_at way) index no_stamps

  -- One entry is raised to stamps if it is earlier.
  abbrev pub raised_at : ℕ → ℕ → Stamps → List (List Stamps)
  raised_at way index stamps =
      slice_set filter way
      (slice_set (way_at way) index (later_stamps (stamps_at way index) stamps))

-- The stamps of a line are the smallest write stamp and the earliest read mark of its four entries.
-- The two may come from different entries.
unfoldable pub filter_stamps : List (List Stamps) → List ℕ → Stamps
filter_stamps filter four =
    earlier_stamps
    (earlier_stamps (stamps_at filter 0 (slice_index four 0))
    (stamps_at filter 1 (slice_index four 1)))
    (earlier_stamps (stamps_at filter 2 (slice_index four 2))
    (stamps_at filter 3 (slice_index four 3)))

-- All four entries are raised.
unfoldable pub filter_raised_to : List (List Stamps) → List ℕ → Stamps → List (List Stamps)
filter_raised_to filter four stamps =
    raised_at
    (raised_at
    (raised_at (raised_at filter 0 (slice_index four 0) stamps) 1 (slice_index four 1) stamps)
    2 (slice_index four 2) stamps)
    3 (slice_index four 3) stamps
