-- Lists of numbers: what they contain, what comes before what, and rising lists.
use Rattle.std.proofs.Common.{◌≡◌, ℕ, zero, suc, ◌+◌, ◌<◌, ◌≤◌, Bool, true, false, cond, ◌&&◌, ◌||◌}
use Rattle.std.proofs.Common.{eqb, ltb, ◌⊎◌, List, [], ◌∷◌, ◌++◌, Some, None, fold, filter, sym}
use Rattle.std.proofs.Common.{refl, ap, ◌∙◌, subst, inl, inr, ⊎_elim, arith}
use Rattle.std.proofs.lemmas.Bool.{both_ways, eqb-true, eq-eqb, ne_eqb, cases_Bool, cases_order}
use Rattle.std.proofs.lemmas.Bool.{lt-ltb, le-ltb, ltb-true, or_left, or_right, or_cases, or_parts}
use Rattle.std.proofs.lemmas.Bool.{and_parts}
use Rattle.std.proofs.lemmas.Bool.Decides.{nat_tests}
use Rattle.rules.specs.Lists.{contains_number, last_of, numbers_below, occurrences, is_before}

-- `eqb` is symmetric and reflexive.
pub eqb_sym : (a b : ℕ) → eqb a b ≡ eqb b a
eqb_sym a b = grind (arith, nat_tests)

pub eqb_refl : (a : ℕ) → eqb a a ≡ true
eqb_refl a = eq-eqb a a refl

-- A fold over two lists.
pub fold_append :
    {A B : Type 0} (f : B → A → B) (b : B) (xs ys : List A)
    → fold f b (xs ++ ys) ≡ fold f (fold f b xs) ys
fold_append f b [] ys = refl
fold_append f b (x ∷ xs) ys = fold_append f (f b x) xs ys

-- What two lists, a filtered list and the numbers below a limit contain.
pub has_append : (z : ℕ) (xs ys : List ℕ)
    → contains_number z (xs ++ ys) ≡ (contains_number z xs || contains_number z ys)
has_append z [] ys = refl
has_append z (x ∷ xs) ys = step (eqb x z) (has_append z xs ys)
  where
    step :
        (b : Bool) → contains_number z (xs ++ ys) ≡ (contains_number z xs || contains_number z ys)
        → (b || contains_number z (xs ++ ys)) ≡
        ((b || contains_number z xs) || contains_number z ys)
    step true rest = refl
    step false rest = rest

pub filter_append :
    (t : ℕ → Bool) (xs ys : List ℕ) → filter t (xs ++ ys) ≡ filter t xs ++ filter t ys
filter_append t [] ys = refl
filter_append t (x ∷ xs) ys = step (t x) (filter_append t xs ys)
  where
    step :
        (b : Bool) → filter t (xs ++ ys) ≡ filter t xs ++ filter t ys
        → cond b (x ∷ filter t (xs ++ ys)) (filter t (xs ++ ys))
        ≡ cond b (x ∷ filter t xs) (filter t xs) ++ filter t ys
    step true rest = ap (λ l. x ∷ l) rest
    step false rest = rest

pub has_filter : (t : ℕ → Bool) (z : ℕ) (xs : List ℕ)
    → contains_number z (filter t xs) ≡ (contains_number z xs && t z)
has_filter t z [] = refl
has_filter t z (x ∷ xs) = step (t x) refl (eqb x z) refl (has_filter t z xs)
  where
    step :
        (b : Bool) → t x ≡ b → (e : Bool) → eqb x z ≡ e
        → contains_number z (filter t xs) ≡ (contains_number z xs && t z)
        → contains_number z (cond b (x ∷ filter t xs) (filter t xs)) ≡
        ((e || contains_number z xs) && t z)
    step true p true q h = let r : t z ≡ true = ap t (sym (eqb-true x z q)) ∙ p in cc
    step true p false q h = ap (λ e. e || contains_number z (filter t xs)) q ∙ h
    step false p true q h =
        let r : t z ≡ false = ap t (sym (eqb-true x z q)) ∙ p in
        let s : (contains_number z xs && t z) ≡ false = ap (λ u. contains_number z xs && u) r
        ∙ flat (contains_number z xs) in
        h ∙ s ∙ sym r
      where
        flat : (b : Bool) → (b && false) ≡ false
        flat true = refl
        flat false = refl
    step false p false q h = h

pub filter_has : (t : ℕ → Bool) (z : ℕ) (xs : List ℕ) → contains_number z xs ≡ true → t z ≡ true
    → contains_number z (filter t xs) ≡ true
filter_has t z xs h k = let e = has_filter t z xs in cc

pub has_of_filter :
    (t : ℕ → Bool) (z : ℕ) (xs : List ℕ) → contains_number z (filter t xs) ≡ true
    → (contains_number z xs ≡ true) × (t z ≡ true)
has_of_filter t z xs h = and_parts (contains_number z xs) (t z) (sym (has_filter t z xs) ∙ h)

pub has_numbers_below : (z n : ℕ) → contains_number z (numbers_below n) ≡ ltb z n
has_numbers_below z zero = sym (le-ltb z 0 (omega arith))
has_numbers_below z (suc n) =
    has_append z (numbers_below n) (n ∷ [])
    ∙ ap (λ b. b || (eqb n z || false)) (has_numbers_below z n) ∙ grind (arith, nat_tests)

-- Numbers that occur once.

-- No number occurs twice in the list.
abbrev pub Once : List ℕ → Type 0
Once xs = (z : ℕ) → occurrences z xs ≤ 1

pub has_count : (z : ℕ) (xs : List ℕ) → contains_number z xs ≡ ltb 0 (occurrences z xs)
has_count z [] = refl
has_count z (x ∷ xs) = step (eqb x z) (has_count z xs)
  where
    step :
        (b : Bool) → contains_number z xs ≡ ltb 0 (occurrences z xs)
        → (b || contains_number z xs) ≡ ltb 0 (cond b 1 0 + occurrences z xs)
    step true h = sym (lt-ltb 0 (1 + occurrences z xs) (omega arith))
    step false h = h ∙ ap (ltb 0) (omega arith)

pub count_append : (z : ℕ) (xs ys : List ℕ)
    → occurrences z (xs ++ ys) ≡ occurrences z xs + occurrences z ys
count_append z [] ys = omega arith
count_append z (x ∷ xs) ys = omega (arith, count_append z xs ys)

pub once_tail : (x : ℕ) (xs : List ℕ) → Once (x ∷ xs) → Once xs
once_tail x xs h z = omega (arith, h z)

pub once_head : (x : ℕ) (xs : List ℕ) → Once (x ∷ xs) → contains_number x xs ≡ false
once_head x xs h =
    let e : ◌≡◌ {A = ℕ} (cond (eqb x x) 1 0) 1 = ap (λ b. cond b 1 0) (eqb_refl x) in
    has_count x xs ∙ le-ltb 0 (occurrences x xs) (omega (arith, h x))

pub once_apart : (z : ℕ) (xs ys : List ℕ) → Once (xs ++ ys) → contains_number z xs ≡ true
    → contains_number z ys ≡ true → ⊥
once_apart z xs ys h p q =
    let a : 0 < occurrences z xs = ltb-true 0 (occurrences z xs) (sym (has_count z xs) ∙ p) in
    let b : 0 < occurrences z ys = ltb-true 0 (occurrences z ys) (sym (has_count z ys) ∙ q) in
    omega (arith, h z, count_append z xs ys)

-- A list can be split at a number that it contains.
pub record Split (z : ℕ) (xs : List ℕ) : Type 0 where
  pub front : List ℕ
  pub back : List ℕ
  pub whole : xs ≡ front ++ z ∷ back

pub split_at : (z : ℕ) (xs : List ℕ) → contains_number z xs ≡ true → Split z xs
split_at z [] h = absurd (both_ways false refl h)
split_at z (x ∷ xs) h = step (eqb x z) refl h (split_at z xs)
  where
    step :
        (b : Bool) → eqb x z ≡ b → (b || contains_number z xs) ≡ true
        → (contains_number z xs ≡ true → Split z xs)
        → Split z (x ∷ xs)
    step true e p rest =
        record { front = []; back = xs; whole = ap (λ y. y ∷ xs) (eqb-true x z e) }
    step false e p rest =
        let s = rest p in
        record { front = x ∷ s.front; back = s.back; whole = ap (λ l. x ∷ l) s.whole }

-- Which numbers come before which.
pub before_has : (xs : List ℕ) (a b : ℕ) → is_before xs a b ≡ true → contains_number b xs ≡ true
before_has [] a b h = absurd (both_ways false refl h)
before_has (x ∷ xs) a b h = step (eqb x a) h (before_has xs a b)
  where
    step :
        (e : Bool) → cond e (contains_number b xs) (is_before xs a b) ≡ true
        → (is_before xs a b ≡ true → contains_number b xs ≡ true)
        → (eqb x b || contains_number b xs) ≡ true
    step true p rest = or_right (eqb x b) (contains_number b xs) p
    step false p rest = or_right (eqb x b) (contains_number b xs) (rest p)

pub front_before : (p q : List ℕ) (a b : ℕ) → contains_number a p ≡ true
    → is_before (p ++ b ∷ q) a b ≡ true
front_before [] q a b h = absurd (both_ways false refl h)
front_before (x ∷ p) q a b h = step (eqb x a) h (front_before p q a b)
  where
    at_b : contains_number b (p ++ b ∷ q) ≡ true
    at_b =
        has_append b p (b ∷ q)
        ∙ or_right (contains_number b p) (contains_number b (b ∷ q))
        (or_left (eqb b b) (contains_number b q) (eqb_refl b))

    step :
        (e : Bool) → (e || contains_number a p) ≡ true
        → (contains_number a p ≡ true → is_before (p ++ b ∷ q) a b ≡ true)
        → cond e (contains_number b (p ++ b ∷ q)) (is_before (p ++ b ∷ q) a b) ≡ true
    step true k rest = at_b
    step false k rest = rest k

-- After the first occurrence of a come just the numbers of the back.
pub before_at : (p q : List ℕ) (a b : ℕ) → contains_number a p ≡ false
    → is_before (p ++ a ∷ q) a b ≡ contains_number b q
before_at [] q a b h = ap (λ e. cond e (contains_number b q) (is_before q a b)) (eqb_refl a)
before_at (x ∷ p) q a b h =
    let k = or_parts (eqb x a) (contains_number a p) h in
    ap (λ e. cond e (contains_number b (p ++ a ∷ q)) (is_before (p ++ a ∷ q) a b)) k.0
    ∙ before_at p q a b k.1

-- What comes before b, which occurs once, is in the front.
pub before_in_front :
    (p q : List ℕ) (a b : ℕ) → contains_number b p ≡ false → contains_number b q ≡ false
    → is_before (p ++ b ∷ q) a b ≡ true → contains_number a p ≡ true
before_in_front [] q a b h k s = step (eqb b a) s
  where
    step : (e : Bool) → cond e (contains_number b q) (is_before q a b) ≡ true → false ≡ true
    step true r = sym k ∙ r
    step false r = absurd (both_ways (contains_number b q) k (before_has q a b r))
before_in_front (x ∷ p) q a b h k s =
    step (eqb x a) s (before_in_front p q a b (or_parts (eqb x b) (contains_number b p) h).1 k)
  where
    step :
        (e : Bool) → cond e (contains_number b (p ++ b ∷ q)) (is_before (p ++ b ∷ q) a b) ≡ true
        → (is_before (p ++ b ∷ q) a b ≡ true → contains_number a p ≡ true)
        → (e || contains_number a p) ≡ true
    step true r rest = refl
    step false r rest = rest r

-- Lists that rise.
abbrev pub Rising : List ℕ → Type 0
Rising [] = Unit {0}
Rising (x ∷ xs) = ((y : ℕ) → contains_number y xs ≡ true → x < y) × Rising xs

or_false : (e : Bool) → (e || false) ≡ true → e ≡ true
or_false true r = refl
or_false false r = r

append_nil : (l : List ℕ) → l ++ [] ≡ l
append_nil [] = refl
append_nil (x ∷ l) = ap (λ r. x ∷ r) (append_nil l)

pub rising_left : (xs ys : List ℕ) → Rising (xs ++ ys) → Rising xs
rising_left [] ys h = tt
rising_left (x ∷ xs) ys h = (
  λ y k. h.0 y
      (has_append y xs ys ∙ or_left (contains_number y xs) (contains_number y ys) k),
  rising_left
      xs ys h.1,
)

pub rising_apart :
    (xs ys : List ℕ) (a b : ℕ) → Rising (xs ++ ys) → contains_number a xs ≡ true
    → contains_number b ys ≡ true → a < b
rising_apart [] ys a b h p q = absurd (both_ways false refl p)
rising_apart (x ∷ xs) ys a b h p q = step (eqb x a) refl p (rising_apart xs ys a b h.1)
  where
    step :
        (e : Bool) → eqb x a ≡ e → (e || contains_number a xs) ≡ true
        → (contains_number a xs ≡ true → contains_number b ys ≡ true → a < b) → a < b
    step true r k rest =
        let f : x < b =
        h.0 b (has_append b xs ys ∙ or_right (contains_number b xs) (contains_number b ys) q) in
        omega (arith, eqb-true x a r)
    step false r k rest = rest k q

pub rising_push :
    (xs : List ℕ) (z : ℕ) → Rising xs → ((y : ℕ) → contains_number y xs ≡ true → y < z)
    → Rising (xs ++ z ∷ [])
rising_push [] z h k = (λ y p. absurd (both_ways false refl p), tt)
rising_push (x ∷ xs) z h k = (
  λ y p. more y
      (or_cases (contains_number y xs) (contains_number y (z ∷ []))
      (sym (has_append y xs (z ∷ [])) ∙ p)),
  rising_push xs z h.1 (λ y p. k y (or_right (eqb x y) (contains_number y xs) p)),
)
  where
    more : (y : ℕ) → (contains_number y xs ≡ true) ⊎ ((eqb z y || false) ≡ true) → x < y
    more y (inl p) = h.0 y p
    more y (inr p) =
        let a : x < z = k x (or_left (eqb x x) (contains_number x xs) (eqb_refl x)) in
        omega (arith, eqb-true z y (or_false (eqb z y) p))

pub filtered_numbers_below_rise : (t : ℕ → Bool) (n : ℕ) → Rising (filter t (numbers_below n))
filtered_numbers_below_rise t zero = tt
filtered_numbers_below_rise t (suc n) =
    subst Rising (sym (filter_append t (numbers_below n) (n ∷ [])))
    (step (t n) (filtered_numbers_below_rise t n))
  where
    below : (y : ℕ) → contains_number y (filter t (numbers_below n)) ≡ true → y < n
    below y h = ltb-true y n
        (sym (has_numbers_below y n) ∙ (has_of_filter t y (numbers_below n) h).0)

    step : (b : Bool) → Rising (filter t (numbers_below n))
        → Rising (filter t (numbers_below n) ++ cond b (n ∷ []) [])
    step true h = rising_push (filter t (numbers_below n)) n h below
    step false h = subst Rising (sym (append_nil (filter t (numbers_below n)))) h

-- Two lists that rise and hold the same numbers are equal.
pub rising_same :
    (xs ys : List ℕ) → Rising xs → Rising ys
    → ((z : ℕ) → contains_number z xs ≡ contains_number z ys) → xs ≡ ys
rising_same [] [] h k e = refl
rising_same [] (y ∷ ys) h k e =
    absurd (both_ways false refl (e y ∙ or_left (eqb y y) (contains_number y ys) (eqb_refl y)))
rising_same (x ∷ xs) [] h k e =
    absurd (both_ways false refl
    (sym (e x) ∙ or_left (eqb x x) (contains_number x xs) (eqb_refl x)))
rising_same (x ∷ xs) (y ∷ ys) h k e =
    ap (λ z. z ∷ xs) heads ∙ ap (λ l. y ∷ l) (rising_same xs ys h.1 k.1 tails)
  where
    x_in : (eqb y x || contains_number x ys) ≡ true
    x_in = sym (e x) ∙ or_left (eqb x x) (contains_number x xs) (eqb_refl x)

    y_in : (eqb x y || contains_number y xs) ≡ true
    y_in = e y ∙ or_left (eqb y y) (contains_number y ys) (eqb_refl y)

    pick : (eqb y x ≡ true) ⊎ (contains_number x ys ≡ true)
        → (eqb x y ≡ true) ⊎ (contains_number y xs ≡ true) → x ≡ y
    pick (inl p) q = sym (eqb-true y x p)
    pick (inr p) (inl q) = eqb-true x y q
    pick (inr p) (inr q) = absurd (omega (arith, k.0 x p, h.0 y q))

    heads : x ≡ y
    heads = pick (or_cases (eqb y x) (contains_number x ys) x_in)
        (or_cases (eqb x y) (contains_number y xs) y_in)

    not_in :
        (u : ℕ) (us : List ℕ) → ((v : ℕ) → contains_number v us ≡ true → u < v) → (z : ℕ) → u ≡ z
        → contains_number z us ≡ false
    not_in u us low z p = ⊎_elim (λ q. absurd (omega (arith, low z q))) (λ q. q)
        (cases_Bool (contains_number z us))

    tails : (z : ℕ) → contains_number z xs ≡ contains_number z ys
    tails z = step (eqb x z) refl (e z)
      where
        step : (b : Bool) → eqb x z ≡ b
            → (b || contains_number z xs) ≡ (eqb y z || contains_number z ys)
            → contains_number z xs ≡ contains_number z ys
        step true p q =
            not_in x xs h.0 z (eqb-true x z p)
            ∙ sym (not_in y ys k.0 z (sym heads ∙ eqb-true x z p))
        step false p q = q ∙ ap (λ b. b || contains_number z ys) (ap (λ u. eqb u z) (sym heads) ∙ p)

-- The numbers that pass a test are rising, if the smaller of two always comes first.
pub rising_from_before :
    (t : ℕ → Bool) (xs : List ℕ) → Once xs
    → ((a b : ℕ) → t a ≡ true → t b ≡ true → contains_number a xs ≡ true
    → contains_number b xs ≡ true → a < b
    → is_before xs a b ≡ true)
    → Rising (filter t xs)
rising_from_before t [] once first = tt
rising_from_before t (x ∷ xs) once first =
    step (t x) refl
    (rising_from_before t xs (once_tail x xs once)
    (λ a b p q ha hb l.
    in_rest a b ha
    (first a b p q (or_right (eqb x a) (contains_number a xs) ha)
    (or_right (eqb x b) (contains_number b xs) hb) l)))
  where
    fresh : contains_number x xs ≡ false
    fresh = once_head x xs once

    other : (a : ℕ) → contains_number a xs ≡ true → eqb x a ≡ false
    other a h = ne_eqb x a
        (λ e. both_ways (contains_number a xs) (subst (λ z. contains_number z xs ≡ false) e fresh)
        h)

    in_rest :
        (a b : ℕ) → contains_number a xs ≡ true → is_before (x ∷ xs) a b ≡ true
        → is_before xs a b ≡ true
    in_rest a b h k = sym (ap (λ e. cond e (contains_number b xs) (is_before xs a b)) (other a h))
        ∙ k

    above : t x ≡ true → (y : ℕ) → contains_number y (filter t xs) ≡ true → x < y
    above p y h = pick (cases_order x y)
      where
        in_xs : contains_number y xs ≡ true
        in_xs = (has_of_filter t y xs h).0

        pick : (x ≡ y) ⊎ ((x < y) ⊎ (y < x)) → x < y
        pick (inl e) =
            absurd (both_ways (contains_number y xs)
            (subst (λ z. contains_number z xs ≡ false) e fresh) in_xs)
        pick (inr (inl l)) = l
        pick (inr (inr l)) =
            absurd
            (both_ways (contains_number x xs) fresh
            (before_has xs y x
            (in_rest y x in_xs
            (first y x (has_of_filter t y xs h).1 p
            (or_right (eqb x y) (contains_number y xs) in_xs)
            (or_left (eqb x x) (contains_number x xs) (eqb_refl x)) l))))

    step :
        (b : Bool) → t x ≡ b → Rising (filter t xs)
        → Rising (cond b (x ∷ filter t xs) (filter t xs))
    step true p rest = (above p, rest)
    step false p rest = rest

-- And the other way round.
pub before_from_rising :
    (t : ℕ → Bool) (xs : List ℕ) (a b : ℕ) → Rising (filter t xs) → t a ≡ true → t b ≡ true
    → contains_number a xs ≡ true → contains_number b xs ≡ true → a < b → is_before xs a b ≡ true
before_from_rising t [] a b r p q ha hb l = absurd (both_ways false refl ha)
before_from_rising t (x ∷ xs) a b r p q ha hb l =
    step (eqb x a) refl ha (λ k m. before_from_rising t xs a b (tail_rises (t x) r) p q k m l)
  where
    tail_rises : (u : Bool) → Rising (cond u (x ∷ filter t xs) (filter t xs)) → Rising (filter t xs)
    tail_rises true h = h.1
    tail_rises false h = h

    not_b : contains_number a xs ≡ true → x ≡ b → ⊥
    not_b k e =
        let u : t x ≡ true = ap t e ∙ q in
        let h : Rising (x ∷ filter t xs) =
        subst (λ v. Rising (cond v (x ∷ filter t xs) (filter t xs))) u r
        in
        omega (arith, h.0 a (filter_has t a xs k p))

    in_tail : (x ≡ b → ⊥) → contains_number b xs ≡ true
    in_tail n = sym (ap (λ e. e || contains_number b xs) (ne_eqb x b n)) ∙ hb

    step :
        (e : Bool) → eqb x a ≡ e → (e || contains_number a xs) ≡ true
        → (contains_number a xs ≡ true → contains_number b xs ≡ true → is_before xs a b ≡ true)
        → cond e (contains_number b xs) (is_before xs a b) ≡ true
    step true e k rest = in_tail (λ f. omega (arith, eqb-true x a e))
    step false e k rest = rest k (in_tail (not_b k))

-- The last of a list.
pub last_push : (xs : List ℕ) (z : ℕ) → last_of (xs ++ z ∷ []) ≡ Some z
last_push xs z = fold_append (λ _ n. Some n) None xs (z ∷ [])

pub last_none : (xs : List ℕ) → ((y : ℕ) → contains_number y xs ≡ false) → last_of xs ≡ None
last_none [] h = refl
last_none (x ∷ xs) h =
    absurd (both_ways (contains_number x (x ∷ xs)) (h x)
    (or_left (eqb x x) (contains_number x xs) (eqb_refl x)))

-- The last number is in the list, and a list with a number in it has a last one.
pub last_is_in : (xs : List ℕ) (z : ℕ) → last_of xs ≡ Some z → contains_number z xs ≡ true
last_is_in [] z h = let bad : ◌≡◌ {A = ℕ} 0 1 = cc in absurd (omega arith)
last_is_in (x ∷ xs) z h = go xs x h
  where
    go : (us : List ℕ) (u : ℕ) → fold (λ _ n. Some n) (Some u) us ≡ Some z
        → contains_number z (u ∷ us) ≡ true
    go [] u e = let f : u ≡ z = cc in or_left (eqb u z) false (eq-eqb u z f)
    go (v ∷ us) u e = or_right (eqb u z) (contains_number z (v ∷ us)) (go us v e)

pub last_some : (xs : List ℕ) (y : ℕ) → contains_number y xs ≡ true
    → (z : ℕ) × (last_of xs ≡ Some z)
last_some [] y h = absurd (both_ways false refl h)
last_some (x ∷ xs) y h = go xs x
  where
    go : (us : List ℕ) (u : ℕ) → (z : ℕ) × (fold (λ _ n. Some n) (Some u) us ≡ Some z)
    go [] u = (u, refl)
    go (v ∷ us) u = go us v

-- Of a list that rises, nothing is larger than the last.
pub last_is_greatest : (xs : List ℕ) (z y : ℕ) → Rising xs → last_of xs ≡ Some z
    → contains_number y xs ≡ true
    → y ≤ z
last_is_greatest [] z y r e h = absurd (both_ways false refl h)
last_is_greatest (x ∷ xs) z y r e h = go xs x r e y h
  where
    go :
        (us : List ℕ) (u : ℕ) → Rising (u ∷ us) → fold (λ _ n. Some n) (Some u) us ≡ Some z
        → (v : ℕ) → contains_number v (u ∷ us) ≡ true → v ≤ z
    go [] u s p v q =
        let f : u ≡ z = cc in
        let g : u ≡ v = eqb-true u v (or_false (eqb u v) q) in
        omega arith
    go (n ∷ us) u s p v q =
        let below : (w : ℕ) → contains_number w (n ∷ us) ≡ true → w ≤ z = go us n s.1 p in
        let n_in : contains_number n (n ∷ us) ≡ true =
        or_left (eqb n n) (contains_number n us) (eqb_refl n) in
        ⊎_elim (λ k. omega (arith, eqb-true u v k, s.0 n n_in, below n n_in)) (λ k. below v k)
        (or_cases (eqb u v) (contains_number v (n ∷ us)) q)

pub last_rising :
    (xs : List ℕ) (z : ℕ) → Rising xs → contains_number z xs ≡ true
    → ((y : ℕ) → contains_number y xs ≡ true → y ≤ z)
    → last_of xs ≡ Some z
last_rising xs z r h top =
    let l = last_some xs z h in
    let e : l.0 ≡ z =
    omega (arith, top l.0 (last_is_in xs l.0 l.1), last_is_greatest xs l.0 z r l.1 h) in
    l.1 ∙ ap Some e
