-- The number of lines that pass a test: at least the number of different lines known to pass, and
-- at most the number of places for them.
use Rattle.std.specs.Prelude.{◌≡◌, ℕ, zero, suc, ◌+◌, ◌<◌, ◌≤◌, Bool, true, false, cond, not, ◌&&◌}
use Rattle.std.specs.Prelude.{◌==◌, ◌≢◌, refl}
use Rattle.std.proofs.Common.{⊎_elim, sym, ap, subst, ◌∙◌, arith}
use Rattle.std.proofs.Math.Bool.{and-true, and-false}
use Rattle.std.proofs.lemmas.Bool.{cases_eq, eq-eqb, ne_eqb, and_parts, not-true, both_ways}
use Rattle.std.proofs.lemmas.Bool.{false_from_ne_true}
use Rattle.book.specs.Meaning.{count_below}

-- The test that passes the same lines but one.
abbrev without : (ℕ → Bool) → ℕ → ℕ → Bool
without test x n = test n && not (n == x)

without_apart : (test : ℕ → Bool) (x n : ℕ) → (n ≢ x) → without test x n ≡ test n
without_apart test x n ne = ap (λ b. test n && not b) (ne_eqb n x ne) ∙ and-true (test n)

without_same : (test : ℕ → Bool) (x : ℕ) → without test x x ≡ false
without_same test x = ap (λ b. test x && not b) (eq-eqb x x refl) ∙ and-false (test x)

counted_below : (test : ℕ → Bool) (x limit : ℕ) → limit ≤ x
    → count_below (without test x) limit ≡ count_below test limit
counted_below test x zero h = refl
counted_below test x (suc n) h =
    let here = without_apart test x n (omega arith) in
    ap (λ b. cond b 1 0 + count_below (without test x) n) here
    ∙ ap (λ m. cond (test n) 1 0 + m) (counted_below test x n (omega arith))

counted_without :
    (test : ℕ → Bool) (x limit : ℕ) → x < limit → test x ≡ true
    → count_below test limit ≡ suc (count_below (without test x) limit)
counted_without test x zero h t = absurd (omega arith)
counted_without test x (suc n) h t = ⊎_elim here (before (counted_without test x n)) (cases_eq n x)
  where
    here : n ≡ x → count_below test (suc n) ≡ suc (count_below (without test x) (suc n))
    here e =
        let passes : test n ≡ true = subst (λ k. test k ≡ true) (sym e) t in
        let left : without test x n ≡ false =
        subst (λ k. without test x k ≡ false) (sym e) (without_same test x) in
        let rest = counted_below test x n (omega arith) in
        let one = ap (λ b. cond b 1 0 + count_below test n) passes in
        let none = ap (λ b. cond b 1 0 + count_below (without test x) n) left in
        omega arith

    before :
        (x < n → test x ≡ true → count_below test n ≡ suc (count_below (without test x) n))
        → (n ≢ x)
        → count_below test (suc n) ≡ suc (count_below (without test x) (suc n))
    before shorter ne =
        let same = ap (λ b. cond b 1 0 + count_below (without test x) n)
        (without_apart test x n ne) in
        let rest = shorter (omega arith) t in
        omega arith

-- If k different lines pass the test, at least k lines do.
pub different_lines :
    (k limit : ℕ) (f : ℕ → ℕ) (test : ℕ → Bool)
    → ((i : ℕ) → i < k → (f i < limit) × (test (f i) ≡ true))
    → ((i j : ℕ) → i < k → j < k → f i ≡ f j → i ≡ j) → k ≤ count_below test limit
different_lines zero limit f test ok apart = omega arith
different_lines (suc k) limit f test ok apart =
    let last = ok k (omega arith) in
    let rest = different_lines k limit f (without test (f k))
    (λ i l. (
      (ok i (omega arith)).0,
      without_apart test (f k) (f i)
          (λ e. let same = apart i k (omega arith) (omega arith) e in omega arith)
          ∙ (ok i (omega arith)).1,
    ))
    (λ i j l m e. apart i j (omega arith) (omega arith) e) in
    let more = counted_without test (f k) limit last.0 last.1 in
    omega arith

-- At most all lines pass.
at_most : (b : Bool) (m n : ℕ) → m ≤ n → cond b 1 0 + m ≤ suc n
at_most true m n le = omega arith
at_most false m n le = omega arith

pub counted_most : (test : ℕ → Bool) (limit : ℕ) → count_below test limit ≤ limit
counted_most test zero = omega arith
counted_most test (suc n) = at_most (test n) (count_below test n) n (counted_most test n)

-- Without one line the count falls by at most one.
counted_less : (test : ℕ → Bool) (x limit : ℕ)
    → count_below test limit ≤ suc (count_below (without test x) limit)
counted_less test x zero = omega arith
counted_less test x (suc n) = ⊎_elim here (apart (counted_less test x n)) (cases_eq n x)
  where
    here : n ≡ x → count_below test (suc n) ≤ suc (count_below (without test x) (suc n))
    here e =
        let rest = counted_below test x n (omega arith) in
        let most = at_most (test n) (count_below test n) (count_below (without test x) n)
        (omega arith) in
        omega arith

    apart :
        count_below test n ≤ suc (count_below (without test x) n) → (n ≢ x)
        → count_below test (suc n) ≤ suc (count_below (without test x) (suc n))
    apart rest ne =
        let same = ap (λ b. cond b 1 0 + count_below (without test x) n)
        (without_apart test x n ne) in
        omega arith

none_counted : (test : ℕ → Bool) (limit : ℕ) → ((n : ℕ) → n < limit → test n ≢ true)
    → count_below test limit ≡ 0
none_counted test zero none = refl
none_counted test (suc n) none =
    let last = ap (λ b. cond b 1 0 + count_below test n)
    (false_from_ne_true (test n) (none n (omega arith))) in
    let rest = none_counted test n (λ m lt. none m (omega arith)) in
    omega arith

-- If each line that passes is in one of k places, at most k lines pass.
pub placed_lines :
    (k limit : ℕ) (line_at : ℕ → ℕ) (test : ℕ → Bool)
    → ((n : ℕ) → n < limit → test n ≡ true → (i : ℕ) × (i < k) × (line_at i ≡ n))
    → count_below test limit ≤ k
placed_lines zero limit line_at test placed =
    let none = none_counted test limit
    (λ n lt passes. let place = placed n lt passes in absurd (let no = place.1 in omega arith)) in
    omega arith
placed_lines (suc k) limit line_at test placed =
    let less = counted_less test (line_at k) limit in
    let rest = placed_lines k limit line_at (without test (line_at k)) (λ n lt passes.
    let parts = and_parts (test n) (not (n == line_at k)) passes in
    let place = placed n lt parts.0 in
    (place.0, before n place.0 place.1 place.2 (not-true (n == line_at k) parts.1), place.2)) in
    omega arith
  where
    before : (n i : ℕ) → i < suc k → line_at i ≡ n → (n == line_at k) ≡ false → i < k
    before n i lt is apart =
        ⊎_elim (λ e. absurd (both_ways _ apart (eq-eqb n (line_at k) (sym is ∙ ap line_at e))))
        (λ ne. omega arith)
        (cases_eq i k)
