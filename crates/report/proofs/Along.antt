-- How far two lists of rows are known to be the same.
use Rattle.std.proofs.Common.{◌≡◌, ℕ, ◌+◌, List, [], ◌∷◌, ◌++◌, length, append_assoc, append-nil}
use Rattle.std.proofs.Common.{length-append, Bool, true, false, eqb, refl, sym, ap, ◌∙◌, arith}
use Rattle.std.proofs.Common.{Option}
use Rattle.std.specs.Prelude.{◌≢◌}
use Rattle.report.specs.Rows.{rows_of, with_byte}
use Rattle.std.proofs.lemmas.List.{append_cancel_left}
use Rattle.report.specs.Compared.{FirstDiffers, MatchIsExact, first_row}
use Rattle.report.specs.declared.compare.Comparison.TheVariants.{Match, Differs}

-- So many rows of both are the same, and these follow.
pub record Along (ours theirs our_rest their_rest : List (List ℕ)) (row : ℕ) : Type 0 where
  pub same : List (List ℕ)
  pub count : row ≡ length same
  pub ours_go_on : ours ≡ same ++ our_rest
  pub theirs_go_on : theirs ≡ same ++ their_rest

pub at_first : (ours theirs : List (List ℕ)) → Along ours theirs ours theirs 0
at_first ours theirs = record { same = []; count = refl; ours_go_on = refl; theirs_go_on = refl }

pub one_more :
    (ours theirs our_rest their_rest our_next their_next : List (List ℕ))
    (our_row their_row : List ℕ) (row : ℕ)
    → Along ours theirs our_rest their_rest row
    → our_rest ≡ our_row ∷ our_next → their_rest ≡ their_row ∷ their_next → our_row ≡ their_row
    → Along ours theirs our_next their_next (row + 1)
one_more ours theirs our_rest their_rest our_next their_next our_row their_row row a e f g =
    record {
      same = a.same ++ our_row ∷ [];
      count = simp length-append (omega (arith, a.count));
      ours_go_on = a.ours_go_on ∙ ap (λ r. a.same ++ r) e
          ∙ sym (append_assoc a.same (our_row ∷ []) our_next);
      theirs_go_on =
          a.theirs_go_on ∙ ap (λ r. a.same ++ r) (f ∙ ap (λ r. r ∷ their_next) (sym g))
          ∙ sym (append_assoc a.same (our_row ∷ []) their_next);
    }

pub found :
    (ours theirs our_rest their_rest : List (List ℕ)) (row : ℕ)
    (our_row their_row : Option (List ℕ))
    → Along ours theirs our_rest their_rest row
    → our_row ≡ first_row our_rest → their_row ≡ first_row their_rest → our_row ≢ their_row
    → FirstDiffers ours theirs (row + 1) our_row their_row
found ours theirs our_rest their_rest row our_row their_row a e f d =
    record {
      same = a.same;
      our_rest = our_rest;
      their_rest = their_rest;
      place = ap (λ n. n + 1) a.count;
      ours_go_on = a.ours_go_on;
      theirs_go_on = a.theirs_go_on;
      our_first = e;
      their_first = f;
      differ = d;
    }

-- A text is its rows, one after another.
abbrev pub text_of : List (List ℕ) → List ℕ
text_of [] = []
text_of (row ∷ rows) = row ++ text_of rows

text_of-with_byte : (byte : ℕ) (rows : List (List ℕ))
    → text_of (with_byte byte rows) ≡ byte ∷ text_of rows
text_of-with_byte byte [] = refl
text_of-with_byte byte (row ∷ rows) = refl

text_of_at :
    (b : Bool) (byte : ℕ) (rest : List ℕ) → eqb byte 10 ≡ b → text_of (rows_of rest) ≡ rest
    → text_of (rows_of (byte ∷ rest)) ≡ byte ∷ rest
text_of_at true byte rest e ih = simp e (ap (λ t. byte ∷ t) ih)
text_of_at false byte rest e ih =
    simp e (text_of-with_byte byte (rows_of rest) ∙ ap (λ t. byte ∷ t) ih)

pub text_of-rows_of : (text : List ℕ) → text_of (rows_of text) ≡ text
text_of-rows_of [] = refl
text_of-rows_of (byte ∷ rest) = text_of_at (eqb byte 10) byte rest refl (text_of-rows_of rest)

-- Where nothing follows in either, the texts are the same.
module _ (ours theirs our_rest their_rest : List ℕ) (row : ℕ) where
  pub all_same :
      Along (rows_of ours) (rows_of theirs) (rows_of our_rest) (rows_of their_rest) row
      → our_rest ≡ [] → their_rest ≡ [] → (ours ≡ theirs) × (row ≡ length (rows_of ours))
  all_same a e f =
      let mine : rows_of ours ≡ a.same = a.ours_go_on ∙ ap (λ t. a.same ++ rows_of t) e
      ∙ append-nil a.same in
      let yours : rows_of theirs ≡ a.same = a.theirs_go_on ∙ ap (λ t. a.same ++ rows_of t) f
      ∙ append-nil a.same in (
        sym (text_of-rows_of ours) ∙ ap text_of (mine ∙ sym yours) ∙ text_of-rows_of theirs,
        a.count ∙ ap length (sym mine),
      )

-- Where a row differs, so do the texts.
not_same :
    (ours theirs : List ℕ) (row : ℕ) (our_row their_row : Option (List ℕ))
    → FirstDiffers (rows_of ours) (rows_of theirs) row our_row their_row → ours ≡ theirs → ⊥
not_same ours theirs row our_row their_row d e =
    let rests : d.same ++ d.our_rest ≡ d.same ++ d.their_rest =
    sym d.ours_go_on ∙ ap rows_of e ∙ d.theirs_go_on in
    let firsts = ap first_row (append_cancel_left d.same d.our_rest d.their_rest rests) in
    d.differ (d.our_first ∙ firsts ∙ sym d.their_first)

pub match_exact : MatchIsExact
match_exact ours theirs (Match rows) said = (λ _. said.0, λ _. tt)
match_exact ours theirs (Differs row our_row their_row) said =
    (λ no_match. absurd no_match, not_same ours theirs row _ _ said)
