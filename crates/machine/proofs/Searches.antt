-- std's searches give the rules' words for lists.
use Rattle.std.proofs.Common.{◌≡◌, ◌<◌, ◌≤◌, ℕ, min, cond, ◌||◌, eqb, ltb, List, [], ◌∷◌, length}
use Rattle.std.proofs.Common.{take, take_all, Some, ⊎_elim, refl, sym, ap, ◌∙◌, arith}
use Rattle.std.proofs.lemmas.Bool.{cases_lt}
use Rattle.std.proofs.lemmas.Bool.Decides.{nat_tests}
use Rattle.std.specs.List.{find, list_any}
use Rattle.rules.specs.Lists.{contains_number}
use Rattle.rules.specs.Queue.{request_of, requests_on}
use Rattle.rules.specs.declared.state.Request.{Request}

pub find-request_of : (q : List Request) (w : ℕ)
    → find (λ (r : Request). eqb r.warp w) q ≡ request_of q w
find-request_of [] w = refl
find-request_of (r ∷ rest) w = ap (cond (eqb r.warp w) (Some r)) (find-request_of rest w)

pub has_by_list_any : (ns : List ℕ) (n : ℕ) → contains_number n ns ≡ list_any (λ m. eqb m n) ns
has_by_list_any [] n = refl
has_by_list_any (m ∷ rest) n = ap (λ b. eqb m n || b) (has_by_list_any rest n)

pub list_any-requests_on :
    (q : List Request) (n : ℕ)
    → list_any (λ (r : Request). eqb r.line n) q ≡ ltb 0 (length (requests_on q n))
list_any-requests_on [] n = refl
list_any-requests_on (r ∷ rest) n = let rest_found = list_any-requests_on rest n
    in grind (arith, nat_tests)

-- The first 32 of some numbers, if there are so many.
pub take-min : (ns : List ℕ) (n : ℕ) → n ≡ min (length ns) 32 → take n ns ≡ take 32 ns
take-min ns n e = ⊎_elim more few (cases_lt 32 (length ns))
  where
    more : 32 < length ns → take n ns ≡ take 32 ns
    more m = let is : n ≡ 32 = omega arith in ap (λ k. take k ns) is

    few : length ns ≤ 32 → take n ns ≡ take 32 ns
    few f =
        let is : n ≡ length ns = omega arith in
        ap (λ k. take k ns) is ∙ take_all (length ns) ns (omega arith) ∙ sym (take_all 32 ns f)
