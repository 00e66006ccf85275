-- What is read of the front of a long file is what is read of the whole.
use Rattle.std.proofs.Common.{◌≡◌, ℕ, zero, suc, ◌+◌, ◌*◌, ◌<◌, ◌≤◌, Bool, true, false, eqb, leb}
use Rattle.std.proofs.Common.{List, length, get_or, take, is_some, Some, sym, refl, ap, ◌∙◌, ap₂}
use Rattle.std.proofs.Common.{⊎_elim, arith, length-take, get_or-take}
use Rattle.std.proofs.lemmas.List.{take_all}
use Rattle.std.proofs.lemmas.Bool.{cases_lt, le-leb, lt-leb, le-ltb}
use Rattle.std.proofs.lemmas.Bool.Decides.{nat_tests}
use Rattle.std.specs.Option.{option_map, ok_or}
use Rattle.protocol.specs.Faults.{fault_in_file}
use Rattle.protocol.specs.declared.fault.Refusal.TheVariants.{BadStamp, BadLetter}
use Rattle.calls.specs.Format.{header_fault, has_marks, two_bytes, book_named, has_sizes}
use Rattle.calls.specs.Format.{warp_count}
use Rattle.calls.specs.Format.{line_count, first_stamps, first_values}
use Rattle.calls.specs.Format.{rows_place, late_stamp_place, numbers, rows_from, row_at, row_before}
use Rattle.calls.specs.Format.{file_rows}
use Rattle.calls.specs.Front.{ReadAlike, Suffices, longest_file}
use Rattle.calls.proofs.SameBytes.{SameBytes, same_in_take, same_two, same_numbers, same_call}
use Rattle.calls.proofs.HeaderChecks.{wrong_mark, wrong_version, wrong_book, wrong_size}
use Rattle.calls.proofs.HeaderChecks.{long_enough, sound_size}

module _ (bytes : List ℕ) (n : ℕ) (long : n < length bytes) (enough : longest_file < n) where
  abbrev front : List ℕ
  front = take n bytes

  front_length : length front ≡ n
  front_length = length-take n bytes ∙ omega arith

  at : (k : ℕ) → k < n → get_or front k 0 ≡ get_or bytes k 0
  at k h = get_or-take n bytes k 0 h

  alike : (place many : ℕ) → place + many ≤ n → SameBytes front bytes place place many
  alike place many h = same_in_take bytes n place many h

  two_alike : (place : ℕ) → place + 2 ≤ n → two_bytes front place ≡ two_bytes bytes place
  two_alike place h = same_two place place 2 (alike place 2 h) (omega arith)

  numbers_alike : (count place : ℕ) → place + 4 * count ≤ n
      → numbers front place count ≡ numbers bytes place count
  numbers_alike count place h =
      same_numbers count place place (4 * count) (alike place (4 * count) h) (omega arith)

  row_alike : (place : ℕ) → place + 8 ≤ n → row_at front place ≡ row_at bytes place
  row_alike place h =
      let e = front_length in
      let begun = lt-leb (length front) place (omega arith) in
      let begun_whole = lt-leb (length bytes) place (omega arith) in
      let whole = le-ltb (length front) (place + 8) (omega arith) in
      let whole_all = le-ltb (length bytes) (place + 8) (omega arith) in
      simp (begun, begun_whole, whole, whole_all)
      (ap (λ c. ok_or (option_map Some c) (fault_in_file BadLetter place))
      (same_call place place 8 (alike place 8 h) (omega arith)))

  rows_alike : (more place : ℕ) → place + 8 * more < n
      → rows_from front more place ≡ rows_from bytes more place
  unfolding rows_from
  rows_alike zero place h =
      let e = front_length in
      simp (lt-leb (length front) place (omega arith), lt-leb (length bytes) place (omega arith))
  rows_alike (suc more) place h =
      ap₂ row_before (row_alike place (omega arith)) (rows_alike more (place + 8) (omega arith))

  marks_alike : has_marks front ≡ has_marks bytes
  marks_alike = simp (at 0 (omega arith), at 1 (omega arith), at 2 (omega arith))

  warps_alike : warp_count front ≡ warp_count bytes
  warps_alike = at 6 (omega arith)

  lines_alike : line_count front ≡ line_count bytes
  lines_alike = two_alike 7 (omega arith)

  sizes_alike : has_sizes front ≡ has_sizes bytes
  sizes_alike =
      let e = front_length in
      simp (
        le-leb 9 (length front) (omega arith),
        le-leb 9 (length bytes)
            (omega arith),
        warps_alike,
        lines_alike,
      )

  -- Where the sizes are sound, the header and every row lie in the front.
  module _ (s : has_sizes bytes ≡ true) where
    few_warps : warp_count bytes ≤ 32
    few_warps = grind (arith, nat_tests)

    few_lines : line_count bytes ≤ 4096
    few_lines = grind (arith, nat_tests)

    stamps_alike : first_stamps front ≡ first_stamps bytes
    stamps_alike =
        let f = few_warps in
        ap (numbers front 9) warps_alike ∙ numbers_alike (warp_count bytes) 9 (omega arith)

    values_alike : first_values front ≡ first_values bytes
    values_alike =
        let f = few_warps in
        let g = few_lines in
        ap₂ (λ w l. numbers front (9 + 4 * w) l) warps_alike lines_alike
        ∙ numbers_alike (line_count bytes) (9 + 4 * warp_count bytes) (omega arith)

    place_alike : rows_place front ≡ rows_place bytes
    place_alike = ap₂ (λ w l. 9 + 4 * w + 4 * l) warps_alike lines_alike

    file_rows_alike : file_rows front ≡ file_rows bytes
    file_rows_alike =
        let f = few_warps in
        let g = few_lines in
        ap (rows_from front 4096) place_alike ∙ rows_alike 4096 (rows_place bytes) (omega arith)

    rows_within : (whole : List ℕ) → rows_place whole ≡ rows_place bytes → n ≤ length whole
        → leb (rows_place whole) (length whole) ≡ true
    rows_within whole e h =
        let f = few_warps in
        let g = few_lines in
        le-leb (rows_place whole) (length whole) (omega arith)

  book_alike : get_or front 5 0 ≡ get_or bytes 5 0
  book_alike = at 5 (omega arith)

  -- The checks pass or fail alike, one after the other.
  faults_alike :
      (m v b s : Bool) → has_marks bytes ≡ m → eqb (two_bytes bytes 3) 1 ≡ v
      → is_some (book_named (get_or bytes 5 0)) ≡ b
      → has_sizes bytes ≡ s → header_fault front ≡ header_fault bytes
  faults_alike false v b s p q r t = wrong_mark front (marks_alike ∙ p) ∙ sym (wrong_mark bytes p)
  faults_alike true false b s p q r t =
      wrong_version front (marks_alike ∙ p) (ap (λ x. eqb x 1) (two_alike 3 (omega arith)) ∙ q)
      ∙ sym (wrong_version bytes p q)
  faults_alike true true false s p q r t =
      wrong_book front (marks_alike ∙ p) (ap (λ x. eqb x 1) (two_alike 3 (omega arith)) ∙ q)
      (ap (λ x. is_some (book_named x)) book_alike ∙ r)
      ∙ sym (wrong_book bytes p q r)
  faults_alike true true true false p q r t =
      wrong_size front (marks_alike ∙ p) (ap (λ x. eqb x 1) (two_alike 3 (omega arith)) ∙ q)
      (ap (λ x. is_some (book_named x)) book_alike ∙ r) (sizes_alike ∙ t)
      ∙ sym (wrong_size bytes p q r t)
  faults_alike true true true true p q r t =
      let e = front_length in
      long_enough front (marks_alike ∙ p) (ap (λ x. eqb x 1) (two_alike 3 (omega arith)) ∙ q)
      (ap (λ x. is_some (book_named x)) book_alike ∙ r) (sizes_alike ∙ t)
      (rows_within t front (place_alike t) (omega arith))
      ∙ ap (λ x. option_map (fault_in_file BadStamp) (late_stamp_place 9 x)) (stamps_alike t)
      ∙ sym (long_enough bytes p q r t (rows_within t bytes refl (omega arith)))

  long_alike : ReadAlike front bytes
  long_alike =
      record {
        same_fault = faults_alike _ _ _ _ refl refl refl refl;
        same_book = book_alike;
        same_stamps = λ sound. stamps_alike (sound_size bytes sound);
        same_values = λ sound. values_alike (sound_size bytes sound);
        same_rows = λ sound. file_rows_alike (sound_size bytes sound);
      }

itself_alike : (bytes : List ℕ) → ReadAlike bytes bytes
itself_alike bytes =
    record {
      same_fault = refl;
      same_book = refl;
      same_stamps = λ _. refl;
      same_values = λ _.
          refl;
      same_rows = λ _. refl;
    }

pub front_suffices : (n : ℕ) → longest_file < n → Suffices n
front_suffices n h bytes =
    ⊎_elim (λ long. long_alike bytes n long h)
    (λ short. rw (take_all n bytes short) (itself_alike bytes))
    (cases_lt n (length bytes))
