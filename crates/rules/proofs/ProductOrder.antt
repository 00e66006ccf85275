-- The product's own order of turns leaves out no request that waits for the line.
use Rattle.std.proofs.Common.{◌≡◌, ℕ, Bool, true, false, cond, ◌||◌, eqb, List, [], ◌∷◌, map, Some}
use Rattle.std.proofs.Common.{fold, refl, ap, ◌∙◌}
use Rattle.std.proofs.lemmas.Bool.{or_left, or_right}
use Rattle.book.specs.Meaning.{Kind}
use Rattle.rules.specs.declared.state.Request.{Request}
use Rattle.rules.specs.Lists.{contains_number}
use Rattle.rules.specs.State.{WarpRow}
use Rattle.rules.specs.Queue.{request_of, requests_on, has_smaller_stamp, inserted_by_stamp}
use Rattle.rules.specs.Laws.{ProductCovers}
use Rattle.rules.proofs.ListFacts.{eqb_refl}

module _ (rows : List WarpRow) where
  -- Inserting a warp keeps all other warps and adds this one.
  has_placed : (xs : List ℕ) (w z : ℕ)
      → contains_number z (inserted_by_stamp rows xs w) ≡ (eqb w z || contains_number z xs)
  has_placed [] w z = refl
  has_placed (v ∷ xs) w z = step (has_smaller_stamp rows w v) (has_placed xs w z)
    where
      swap : (a b c : Bool) → (b || (a || c)) ≡ (a || (b || c))
      swap true true c = refl
      swap true false c = refl
      swap false b c = refl

      step :
          (b : Bool) → contains_number z (inserted_by_stamp rows xs w) ≡
          (eqb w z || contains_number z xs)
          → contains_number z (cond b (w ∷ v ∷ xs) (v ∷ inserted_by_stamp rows xs w)) ≡
          (eqb w z || (eqb v z || contains_number z xs))
      step true h = refl
      step false h = ap (λ b. eqb v z || b) h ∙ swap (eqb w z) (eqb v z) (contains_number z xs)

  has_turns : (ws xs : List ℕ) (z : ℕ) → contains_number z ws ≡ true
      → contains_number z (fold (inserted_by_stamp rows) xs ws) ≡ true
  has_turns [] xs z h = absurd (Rattle.std.proofs.lemmas.Bool.both_ways false refl h)
  has_turns (w ∷ ws) xs z h = step (eqb w z) refl h (has_turns ws (inserted_by_stamp rows xs w) z)
    where
      step :
          (b : Bool) → eqb w z ≡ b → (b || contains_number z ws) ≡ true
          → (contains_number z ws ≡ true
          → contains_number z (fold (inserted_by_stamp rows) (inserted_by_stamp rows xs w) ws)
          ≡ true)
          → contains_number z (fold (inserted_by_stamp rows) (inserted_by_stamp rows xs w) ws)
          ≡ true
      step false e k rest = rest k
      step true e k rest =
          stays ws (inserted_by_stamp rows xs w)
          (has_placed xs w z ∙ ap (λ b. b || contains_number z xs) e)
        where
          stays : (us ys : List ℕ) → contains_number z ys ≡ true
              → contains_number z (fold (inserted_by_stamp rows) ys us) ≡ true
          stays [] ys p = p
          stays (u ∷ us) ys p =
              stays us (inserted_by_stamp rows ys u)
              (has_placed ys u z ∙ or_right (eqb u z) (contains_number z ys) p)

abbrev warp_of : Request → ℕ
warp_of q = q.warp

-- A request in the queue is among those for its line.
in_line :
    (queue : List Request) (w : ℕ) (r : Request) → request_of queue w ≡ Some r
    → contains_number w (map warp_of (requests_on queue r.line)) ≡ true
in_line [] w r e =
    let z : true ≡ false = cc in
    absurd (Rattle.std.proofs.lemmas.Bool.true≢false z)
in_line (q ∷ queue) w r e = step (eqb q.warp w) refl e (in_line queue w r)
  where
    rest_of : List ℕ
    rest_of = map warp_of (requests_on queue r.line)

    later :
        (b : Bool) → contains_number w rest_of ≡ true
        → contains_number w
        (map warp_of (cond b (q ∷ requests_on queue r.line) (requests_on queue r.line)))
        ≡ true
    later true h = or_right (eqb q.warp w) (contains_number w rest_of) h
    later false h = h

    step :
        (b : Bool) → eqb q.warp w ≡ b → cond b (Some q) (request_of queue w) ≡ Some r
        → (request_of queue w ≡ Some r → contains_number w rest_of ≡ true)
        → contains_number w (map warp_of (requests_on (q ∷ queue) r.line)) ≡ true
    step true p h rest =
        let same : q ≡ r = cc in
        ap
        (λ b.
        contains_number w
        (map warp_of (cond b (q ∷ requests_on queue r.line) (requests_on queue r.line))))
        (ap (λ (x : Request). eqb x.line r.line) same ∙ eqb_refl r.line)
        ∙ or_left (eqb q.warp w) (contains_number w rest_of) p
    step false p h rest = later (eqb q.line r.line) (rest h)

pub product_covers : (k : Kind) → ProductCovers k
product_covers k m w r e =
    has_turns m.warp_rows (map warp_of (requests_on m.queue r.line)) [] w (in_line m.queue w r e)
