-- Some order explains every run: that of logical time. The names are sorted by it, and the law of
-- accounts does the rest.
use Rattle.std.proofs.Common.{◌≡◌, ℕ, zero, suc, ◌+◌, ◌<◌, Bool, true, false, cond, ◌&&◌, ◌||◌, eqb}
use Rattle.std.proofs.Common.{ltb, ◌⊎◌, List, [], ◌∷◌, length, sym, refl, ap, ◌∙◌, inl, inr, ⊎_elim}
use Rattle.std.proofs.Common.{arith}
use Rattle.std.proofs.lemmas.Bool.{both_ways, eqb-true, cases_Bool, lt-ltb, or_cases}
use Rattle.std.proofs.lemmas.Bool.Decides.{nat_tests}
use Rattle.book.specs.Meaning.{Kind}
use Rattle.rules.specs.Lists.{contains_number, numbers_below, occurrences, is_before}
use Rattle.rules.specs.Making.{new_machine}
use Rattle.rules.specs.Runs.{run}
use Rattle.rules.specs.Transactions.{transaction_named, Transaction}
use Rattle.rules.specs.Ledger.{ledger_of}
use Rattle.rules.specs.Account.{EachOnce}
use Rattle.rules.specs.LogicalTime.{is_earlier, IsInLogicalOrder}
use Rattle.rules.specs.Laws.{LawOfAccounts, LawOfExplanation}
use Rattle.rules.proofs.ListFacts.{has_count, count_append, has_numbers_below}

-- Sorting by insertion: a number goes before the first one that it must come before.
inserted : (ℕ → ℕ → Bool) → ℕ → List ℕ → List ℕ
inserted before n [] = n ∷ []
inserted before n (x ∷ xs) = cond (before n x) (n ∷ x ∷ xs) (x ∷ inserted before n xs)

sorted : (ℕ → ℕ → Bool) → List ℕ → List ℕ
sorted before [] = []
sorted before (n ∷ ns) = inserted before n (sorted before ns)

-- Sorting keeps how often each number occurs.
count_inserted :
    (before : ℕ → ℕ → Bool) (n z : ℕ) (xs : List ℕ)
    → occurrences z (inserted before n xs) ≡ cond (eqb n z) 1 0 + occurrences z xs
unfolding inserted
count_inserted before n z [] = refl
count_inserted before n z (x ∷ xs) = step (before n x) (count_inserted before n z xs)
  where
    step :
        (b : Bool)
        → occurrences z (inserted before n xs) ≡ cond (eqb n z) 1 0 + occurrences z xs
        → occurrences z (cond b (n ∷ x ∷ xs) (x ∷ inserted before n xs))
        ≡ cond (eqb n z) 1 0 + (cond (eqb x z) 1 0 + occurrences z xs)
    step true h = refl
    step false h = omega arith

count_sorted :
    (before : ℕ → ℕ → Bool) (z : ℕ) (ns : List ℕ)
    → occurrences z (sorted before ns) ≡ occurrences z ns
unfolding sorted
count_sorted before z [] = refl
count_sorted before z (n ∷ ns) =
    count_inserted before n z (sorted before ns)
    ∙ ap (λ c. cond (eqb n z) 1 0 + c) (count_sorted before z ns)

has_sorted : (before : ℕ → ℕ → Bool) (z : ℕ) (ns : List ℕ)
    → contains_number z (sorted before ns) ≡ contains_number z ns
has_sorted before z ns =
    has_count z (sorted before ns) ∙ ap (ltb 0) (count_sorted before z ns) ∙ sym (has_count z ns)

has_inserted :
    (before : ℕ → ℕ → Bool) (n z : ℕ) (xs : List ℕ)
    → contains_number z (inserted before n xs) ≡ contains_number z (n ∷ xs)
has_inserted before n z xs =
    has_count z (inserted before n xs) ∙ ap (ltb 0) (count_inserted before n z xs)
    ∙ sym (has_count z (n ∷ xs))

count_numbers_below : (z n : ℕ) → occurrences z (numbers_below n) ≡ cond (ltb z n) 1 0
count_numbers_below z zero = grind (arith, nat_tests)
count_numbers_below z (suc n) =
    count_append z (numbers_below n) (n ∷ [])
    ∙ ap (λ c. c + (cond (eqb n z) 1 0 + 0)) (count_numbers_below z n)
    ∙ one_more z n
  where
    one_more : (z n : ℕ) → cond (ltb z n) 1 0 + (cond (eqb n z) 1 0 + 0) ≡ cond (ltb z (suc n)) 1 0
    one_more z n = grind (arith, nat_tests)

-- A strict order: transitive, and nothing comes before itself.
record Strict (before : ℕ → ℕ → Bool) : Type 0 where
  never_itself : (a : ℕ) → before a a ≡ false
  onward : (a b c : ℕ) → before a b ≡ true → before b c ≡ true → before a c ≡ true

module _ (before : ℕ → ℕ → Bool) (strict : Strict before) where
  -- The list is in order: no later number must come before an earlier one.
  InOrder : List ℕ → Type 0
  InOrder [] = Unit {0}
  InOrder (x ∷ xs) = ((y : ℕ) → contains_number y xs ≡ true → before y x ≡ false) × InOrder xs

  inserted_in_order : (n : ℕ) (xs : List ℕ) → InOrder xs → InOrder (inserted before n xs)
  unfolding inserted InOrder
  inserted_in_order n [] h = (λ y p. absurd (both_ways false refl p), tt)
  inserted_in_order n (x ∷ xs) h = step (before n x) refl (inserted_in_order n xs h.1)
    where
      not_n : before n x ≡ true → (y : ℕ) → before y x ≡ false → before y n ≡ false
      not_n first y p =
          ⊎_elim (λ q. absurd (both_ways (before y x) p (strict.onward y n x q first))) (λ q. q)
          (cases_Bool (before y n))

      later : before n x ≡ true → (y : ℕ) → (eqb x y ≡ true) ⊎ (contains_number y xs ≡ true)
          → before y n ≡ false
      later first y (inl p) =
          not_n first y (ap (λ z. before z x) (sym (eqb-true x y p)) ∙ strict.never_itself x)
      later first y (inr p) = not_n first y (h.0 y p)

      behind : before n x ≡ false → (y : ℕ) → (eqb n y ≡ true) ⊎ (contains_number y xs ≡ true)
          → before y x ≡ false
      behind last y (inl p) = ap (λ z. before z x) (sym (eqb-true n y p)) ∙ last
      behind last y (inr p) = h.0 y p

      step :
          (b : Bool) → before n x ≡ b → InOrder (inserted before n xs)
          → InOrder (cond b (n ∷ x ∷ xs) (x ∷ inserted before n xs))
      step true e rest = (λ y p. later e y (or_cases (eqb x y) (contains_number y xs) p), h)
      step false e rest = (
        λ y p. behind e y
            (or_cases (eqb n y) (contains_number y xs) (sym (has_inserted before n y xs) ∙ p)),
        rest,
      )

  sorted_in_order : (ns : List ℕ) → InOrder (sorted before ns)
  unfolding sorted InOrder
  sorted_in_order [] = tt
  sorted_in_order (n ∷ ns) = inserted_in_order n (sorted before ns) (sorted_in_order ns)

  -- In a sorted list, of two numbers the one that must come before is before.
  stands :
      (xs : List ℕ) → InOrder xs → (a b : ℕ) → contains_number a xs ≡ true
      → contains_number b xs ≡ true → before a b ≡ true
      → is_before xs a b ≡ true
  unfolding InOrder
  stands [] h a b p q first = absurd (both_ways false refl p)
  stands (x ∷ xs) h a b p q first =
      step (eqb x a) refl p (or_cases (eqb x b) (contains_number b xs) q)
      (λ k r. stands xs h.1 a b k r first)
    where
      same : x ≡ a → x ≡ b → ⊥
      same e f =
          both_ways (before a b) (ap (λ z. before z b) (sym e ∙ f) ∙ strict.never_itself b) first

      step :
          (e : Bool) → eqb x a ≡ e → (e || contains_number a xs) ≡ true
          → (eqb x b ≡ true) ⊎ (contains_number b xs ≡ true)
          → (contains_number a xs ≡ true → contains_number b xs ≡ true → is_before xs a b ≡ true)
          → cond e (contains_number b xs) (is_before xs a b) ≡ true
      step true e k (inl r) rest = absurd (same (eqb-true x a e) (eqb-true x b r))
      step true e k (inr r) rest = r
      step false e k (inl r) rest =
          absurd (both_ways (before a x) (h.0 a k) (ap (before a) (eqb-true x b r) ∙ first))
      step false e k (inr r) rest = rest k r

-- Logical time is a strict order.
key_before : (s w a t v b : ℕ) → Bool
key_before s w a t v b = (ltb s t || (eqb s t && ltb w v)) || (eqb s t && (eqb w v && ltb a b))

key_itself : (s w a : ℕ) → key_before s w a s w a ≡ false
unfolding key_before
key_itself s w a = grind (arith, nat_tests)

key_onward :
    (s w a t v b u x c : ℕ) → key_before s w a t v b ≡ true → key_before t v b u x c ≡ true
    → key_before s w a u x c ≡ true
unfolding key_before
key_onward s w a t v b u x c p q = grind (arith, nat_tests)

time_is_strict : (txs : List Transaction) → Strict (is_earlier txs)
unfolding key_before
time_is_strict txs =
    record {
      never_itself =
          λ a. key_itself (transaction_named txs a).stamp (transaction_named txs a).warp a;
      onward =
          λ a b c.
          key_onward (transaction_named txs a).stamp (transaction_named txs a).warp a
          (transaction_named txs b).stamp (transaction_named txs b).warp b
          (transaction_named txs c).stamp (transaction_named txs c).warp c;
    }

-- The names in the order of logical time.
in_time : List Transaction → List ℕ
in_time txs = sorted (is_earlier txs) (numbers_below (length txs))

pub some_logical_order :
    (txs : List Transaction)
    → (order : List ℕ) × EachOnce order (length txs) × IsInLogicalOrder txs order
unfolding in_time
some_logical_order txs = (
  in_time txs,
  once,
  λ a b p q conflict first.
      stands (is_earlier txs) (time_is_strict txs) (in_time txs)
      (sorted_in_order (is_earlier txs) (time_is_strict txs) (numbers_below (length txs))) a b
      (stands_there a p) (stands_there b q) first,
)
  where
    once : EachOnce (in_time txs) (length txs)
    once name =
        count_sorted (is_earlier txs) name (numbers_below (length txs))
        ∙ count_numbers_below name (length txs)

    stands_there : (a : ℕ) → a < length txs → contains_number a (in_time txs) ≡ true
    stands_there a p =
        has_sorted (is_earlier txs) a (numbers_below (length txs))
        ∙ has_numbers_below a (length txs) ∙ lt-ltb a (length txs) p

-- So the law of accounts gives an order that explains the run.
pub law_of_explanation : (k : Kind) → LawOfAccounts k → LawOfExplanation k
law_of_explanation k accounts keeps policy lines book good stamps calls =
    let r = run policy (new_machine k lines book stamps) calls in
    let found = some_logical_order (ledger_of r.events).committed in (
      found.0,
      found.1,
      (accounts keeps policy lines book good stamps calls found.0 found.1).1
          found.2,
    )
