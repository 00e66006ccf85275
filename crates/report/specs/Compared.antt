-- The outcome of comparing two listings.
use Rattle.std.specs.Prelude.{◌≡◌, ◌≢◌, ◌↔◌, ℕ, ◌+◌, List, [], ◌∷◌, ◌++◌, length, Some, None}
use Rattle.std.specs.Prelude.{Option}
use Rattle.std.specs.Option.{option_map}
use Rattle.report.specs.Rows.{rows_of}
use Rattle.report.specs.declared.compare.Comparison.{Comparison}
use Rattle.report.specs.declared.compare.Comparison.TheVariants.{Match, Differs}

-- The first of some rows, if there is one.
abbrev pub first_row : List (List ℕ) → Option (List ℕ)
first_row [] = None
first_row (row ∷ rows) = Some row

-- The rows before this one are the same in both listings, and this row is not.
pub record FirstDiffers (ours theirs : List (List ℕ)) (row : ℕ)
    (our_row their_row : Option (List ℕ)) : Type 0 where
  pub same : List (List ℕ)
  pub our_rest : List (List ℕ)
  pub their_rest : List (List ℕ)
  pub place : row ≡ length same + 1
  pub ours_go_on : ours ≡ same ++ our_rest
  pub theirs_go_on : theirs ≡ same ++ their_rest
  pub our_first : our_row ≡ first_row our_rest
  pub their_first : their_row ≡ first_row their_rest
  pub differ : our_row ≢ their_row

-- The comparison is right: a match has the same bytes in both and the number of their rows;
-- otherwise it names the first row that differs.
abbrev pub IsRightComparison : List ℕ → List ℕ → Comparison → Type 0
IsRightComparison ours theirs (Match rows) = (ours ≡ theirs) × (rows ≡ length (rows_of ours))
IsRightComparison ours theirs (Differs row our_row their_row) =
    FirstDiffers (rows_of ours) (rows_of theirs) row (option_map (λ r. r.now) our_row)
    (option_map (λ r. r.now) their_row)

abbrev pub IsMatch : Comparison → Type 0
IsMatch (Match rows) = Unit {0}
IsMatch (Differs row our_row their_row) = ⊥

-- A comparison is a match exactly if the two listings are the same, byte for byte.
abbrev pub MatchIsExact : Type 0
MatchIsExact = (ours theirs : List ℕ) (said : Comparison) → IsRightComparison ours theirs said
    → IsMatch said ↔ (ours ≡ theirs)
