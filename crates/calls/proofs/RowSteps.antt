-- What has been read and what is still to be read are the whole: kept by a row more, and whole at
-- the last row.
use Rattle.std.proofs.Common.{◌≡◌, ℕ, zero, suc, ◌+◌, ◌-◌, ◌*◌, ◌/◌, ◌<◌, ◌≤◌, min, cond, leb, ltb}
use Rattle.std.proofs.Common.{List, [], ◌∷◌, ◌++◌, length, take, drop, get_or, Some, None, Ok, Err}
use Rattle.std.proofs.Common.{Option, Result, sym, refl, ap, ◌∙◌, ap₂, ◌⊎◌, ⊎_elim, append_assoc}
use Rattle.std.proofs.Common.{append-nil, arith, length-take, length-drop, get_or-take, drop-drop}
use Rattle.std.specs.Simd.{first_chunks}
use Rattle.std.specs.List.{slice_range}
use Rattle.std.proofs.lemmas.List.{take_all, drop_all}
use Rattle.std.proofs.lemmas.Bool.{cases_lt, le-leb, lt-leb, lt-ltb, le-ltb}
use Rattle.std.specs.Option.{option_map, ok_or, unwrap_or, MatchOption}
use Rattle.std.specs.Result.{result_map_both}
use Rattle.protocol.specs.Faults.{fault_in_file}
use Rattle.protocol.specs.declared.call.Call.{Call}
use Rattle.protocol.specs.declared.fault.Fault.{Fault}
use Rattle.protocol.specs.declared.fault.Refusal.TheVariants.{CutShort, TooManyRows, BadLetter}
use Rattle.calls.specs.Format.{Rows, rows_from, row_before, row_at, row_result, row_call}
use Rattle.calls.specs.Format.{empty_rows, file_fault_unless}
use Rattle.calls.proofs.SameBytes.{same_in_part, same_call}

-- Some calls before some rows.
abbrev pub calls_before : List Call → Rows → Rows
calls_before calls rows = record { calls = calls ++ rows.calls; fault = rows.fault }

-- What a row says, as what stands at its place.
abbrev pub standing : Result Call Fault → Result (Option Call) Fault
standing = result_map_both Some (λ fault. fault)

standing_call : (call : Option Call) (fault : Fault)
    → standing (ok_or call fault) ≡ ok_or (option_map Some call) fault
standing_call None fault = refl
standing_call (Some call) fault = refl

-- What a file has from a place on is nothing past its end.
pub rest_is :
    {R : Type 0} (now : R → List ℕ) (bytes : List ℕ) (start : ℕ) (none : R) → now none ≡ []
    → (found : Option R)
    → MatchOption found ((length bytes < start) ⊎ (length bytes < length bytes))
    (λ x. (start ≤ length bytes) × (length bytes ≤ length bytes)
    × (now x ≡ slice_range bytes start (length bytes))
    × (length (now x) + start ≡ length bytes))
    → now (unwrap_or found none) ≡ drop start bytes
rest_is now bytes start none nothing None past =
    nothing ∙ sym (drop_all start bytes (⊎_elim (λ h. omega arith) (λ h. omega arith) past))
rest_is now bytes start none nothing (Some rest) within =
    within.2 ∙ take_all (length bytes - start) (drop start bytes)
    (omega (arith, length-drop start bytes))

-- Some bytes by eights: there are so many, and each is the part from its place on.
eights_many : (count : ℕ) (bytes : List ℕ) → length (first_chunks 8 count bytes) ≡ count
eights_many zero bytes = refl
eights_many (suc count) bytes = ap suc (eights_many count (drop 8 bytes))

row_in :
    (count i : ℕ) (bytes : List ℕ) → i < count
    → get_or (first_chunks 8 count bytes) i [] ≡ take 8 (drop (8 * i) bytes)
row_in zero i bytes h = absurd (omega arith)
row_in (suc count) zero bytes h = refl
row_in (suc count) (suc i) bytes h =
    let e : 8 + 8 * i ≡ 8 * suc i = omega arith in
    row_in count i (drop 8 bytes) (omega arith)
    ∙ ap (take 8) (drop-drop (8 * i) 8 bytes ∙ ap (λ n. drop n bytes) e)

-- The bytes of a whole row say what stands at its place.
row_stands :
    (bytes : List ℕ) (place : ℕ) → place + 8 ≤ length bytes → (row : List ℕ)
    → row ≡ take 8 (drop place bytes)
    → standing (row_result row place) ≡ row_at bytes place
row_stands bytes place fits row is =
    let begun = lt-leb (length bytes) place (omega arith) in
    let whole = le-ltb (length bytes) (place + 8) fits in
    simp (begun, whole)
    (ap (λ call. standing (ok_or call (fault_in_file BadLetter place)))
    (ap (λ r. row_call r 0) is ∙ same_call 0 place 8 (same_in_part bytes place 8 8 (omega arith))
    (omega arith))
    ∙ standing_call (row_call bytes place) _)

-- The whole rows that stand from a start on, as far as they may come.
abbrev pub whole_rows : List ℕ → ℕ → List (List ℕ)
whole_rows bytes start =
    take (min (length (drop start bytes) / 8) 4096)
    (first_chunks 8 (length (drop start bytes) / 8) (drop start bytes))

pub whole_rows_are :
    (bytes : List ℕ) (start : ℕ) (rest : List ℕ) → rest ≡ drop start bytes → (rows : List (List ℕ))
    → rows ≡ first_chunks 8 (length rest / 8) rest → length rows ≡ length rest / 8 → (most : ℕ)
    → most ≡ min (length rows) 4096 → take most rows ≡ whole_rows bytes start
whole_rows_are bytes start rest is rows eights many most few =
    ap₂ take (few ∙ ap (λ n. min n 4096) many) eights
    ∙ ap (λ xs. take (min (length xs / 8) 4096) (first_chunks 8 (length xs / 8) xs)) is

module _ (bytes : List ℕ) (start : ℕ) (rows : List (List ℕ))
    (are : rows ≡ whole_rows bytes start) where
  abbrev here : List ℕ
  here = drop start bytes

  pub rows_many : length rows ≡ min (length here / 8) 4096
  rows_many =
      ap length are
      ∙ length-take (min (length here / 8) 4096) (first_chunks 8 (length here / 8) here)
      ∙ omega (arith, eights_many (length here / 8) here)

  pub row_fits : (i : ℕ) → i < length rows → (i < 4096) × (start + 8 * i + 8 ≤ length bytes)
  row_fits i inside =
      let many = rows_many in
      let long = length-drop start bytes in
      (omega arith, omega arith)

  pub file_ends : length rows < 4096 → length bytes < start + 8 * length rows + 8
  file_ends less =
      let many = rows_many in
      let long = length-drop start bytes in
      omega arith

  pub these_stand :
      (i : ℕ) → i < length rows → (n : ℕ) → n ≡ i
      → standing (row_result (get_or rows i []) (start + 8 * n)) ≡ row_at bytes (start + 8 * i)
  these_stand i inside n e =
      let many = rows_many in
      ap (λ k. standing (row_result (get_or rows i []) (start + 8 * k))) e
      ∙ row_stands bytes (start + 8 * i) ((row_fits i inside).1) (get_or rows i [])
      (ap (λ xs. get_or xs i []) are
      ∙ get_or-take (min (length here / 8) 4096) (first_chunks 8 (length here / 8) here) i []
      (omega arith)
      ∙ row_in (length here / 8) i here (omega arith) ∙ ap (take 8) (drop-drop (8 * i) start bytes))

-- A fault, or none, with no rows after it.
last_found : (calls : List Call) (found : Option Fault) (rows : Rows)
    → calls_before calls (empty_rows found) ≡ rows
    → (calls ≡ rows.calls) × (found ≡ rows.fault)
last_found calls found rows e = (sym (append-nil calls) ∙ ap (λ r. r.calls) e, ap (λ r. r.fault) e)

module _ (bytes : List ℕ) (place n : ℕ) (calls : List Call) (rows : Rows)
    (whole : calls_before calls (rows_from bytes n place) ≡ rows) where
  with_row :
      (m : ℕ) → m + 1 ≡ n → (row : Result (Option Call) Fault) → row ≡ row_at bytes place
      → calls_before calls (row_before row (rows_from bytes m (place + 8))) ≡ rows
  unfolding rows_from
  with_row m next row is =
      let e : n ≡ suc m = omega arith in
      ap (λ r. calls_before calls (row_before r (rows_from bytes m (place + 8)))) is
      ∙ ap (λ k. calls_before calls (rows_from bytes k place)) (sym e) ∙ whole

  pub one_more :
      (m after : ℕ) → m + 1 ≡ n → place + 8 ≡ after → (call : Call)
      → Ok (Some call) ≡ row_at bytes place
      → calls_before (calls ++ call ∷ []) (rows_from bytes m after) ≡ rows
  one_more m after next e call is =
      ap (λ p. calls_before (calls ++ call ∷ []) (rows_from bytes m p)) (sym e)
      ∙ ap (λ all. record { calls = all; fault = (rows_from bytes m (place + 8)).fault })
      (append_assoc calls (call ∷ []) _)
      ∙ with_row m next (Ok (Some call)) is

  pub at_fault :
      (m : ℕ) → m + 1 ≡ n → (found : Fault) → Err found ≡ row_at bytes place
      → (calls ≡ rows.calls) × (Some found ≡ rows.fault)
  at_fault m next found is = last_found calls (Some found) rows (with_row m next (Err found) is)

  -- No whole row is left: those that may come are read, or the file ends, maybe in a row.
  pub at_last :
      (read last : ℕ) → n + read ≡ 4096 → place ≡ last → (0 < n → length bytes < last + 8)
      → (calls ≡ rows.calls)
      × (file_fault_unless (leb (length bytes) last)
      (cond (ltb read 4096) CutShort TooManyRows) last ≡ rows.fault)
  unfolding rows_from
  at_last read last left is short =
      let here : calls_before calls (rows_from bytes n last) ≡ rows =
      ap (λ p. calls_before calls (rows_from bytes n p)) (sym is) ∙ whole in
      ⊎_elim
      (λ some.
      let m : n - 1 + 1 ≡ n = omega arith in
      let few = lt-ltb read 4096 (omega arith) in
      let cut = lt-ltb (length bytes) (last + 8) (short some) in
      ⊎_elim
      (λ begun.
      let more = lt-leb (length bytes) last begun in
      let found = fault_in_file CutShort last in
      simp (few, more)
      (last_found calls (Some found) rows
      (with_row (n - 1) m (Err found) (simp (more, cut, is)))))
      (λ ended.
      let over = le-leb (length bytes) last ended in
      simp over (last_found calls None rows (with_row (n - 1) m (Ok None) (simp (over, is)))))
      (cases_lt last (length bytes)))
      (λ all.
      let z : n ≡ 0 = omega arith in
      let full = le-ltb read 4096 (omega arith) in
      simp full (last_found calls _ rows
      (ap (λ k. calls_before calls (rows_from bytes k last)) (sym z) ∙ here)))
      (cases_lt 0 n)
