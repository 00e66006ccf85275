-- What a slice pattern leaves after its first elements is the list without them.
use Rattle.std.proofs.Common.{◌≡◌, ℕ, ◌+◌, ◌-◌, ◌*◌, List, length, get_or, take, drop, ap, ◌∙◌, ap₂}
use Rattle.std.proofs.Common.{length-drop, get_or-drop}
use Rattle.std.proofs.lemmas.List.{take_rest}
use Rattle.calls.specs.Format.{warp_count, line_count}

module _ (xs : List ℕ) (n : ℕ) where
  pub tail_length : length (take (length xs - n) (drop n xs)) ≡ length xs - n
  tail_length = ap length (take_rest xs n) ∙ length-drop n xs

  pub tail_at : (k : ℕ) → get_or (take (length xs - n) (drop n xs)) k 0 ≡ get_or xs (n + k) 0
  tail_at k = ap (λ ys. get_or ys k 0) (take_rest xs n) ∙ get_or-drop n xs k 0

-- Of a list that goes on with another, what stands at the places of warps and lines.
module _ (bytes rest : List ℕ) (follows : (k : ℕ) → get_or rest k 0 ≡ get_or bytes (5 + k) 0) where
  pub warps_at : (x : ℕ) → x ≡ get_or (take (length rest - 1) (drop 1 rest)) 0 0
      → x ≡ warp_count bytes
  warps_at x e = e ∙ tail_at rest 1 0 ∙ follows 1

  pub lines_at :
      (x : ℕ)
      → x ≡ get_or (take (length rest - 1) (drop 1 rest)) 1 0 * 256 + get_or
      (take (length rest - 1) (drop 1 rest)) 2 0
      → x ≡ line_count bytes
  lines_at x e =
      e ∙ ap₂ (λ a b. a * 256 + b) (tail_at rest 1 1 ∙ follows 2) (tail_at rest 1 2 ∙ follows 3)
