-- If no call is left, or no answer, there are no more rows.
use Rattle.std.proofs.Common.{◌≡◌, ℕ, List, [], ◌∷◌, ◌++◌, ◌⊎◌, inl, inr, length, Result, sym, refl}
use Rattle.std.proofs.Common.{ap, ◌∙◌, append-nil}
use Rattle.protocol.specs.declared.answer.Answer.{Answer}
use Rattle.protocol.specs.declared.call.Call.{Call}
use Rattle.protocol.specs.declared.fault.Fault.{Fault}
use Rattle.listing.specs.Listing.{call_rows}

no_rows :
    (place : ℕ) (calls : List Call) (answers : List (Result Answer Fault))
    → (length calls ≡ 0) ⊎ (length answers ≡ 0)
    → call_rows place calls answers ≡ []
no_rows place [] answers h = refl
no_rows place (call ∷ calls) [] h = refl
no_rows place (call ∷ calls) (answer ∷ answers) (inl e) = cc
no_rows place (call ∷ calls) (answer ∷ answers) (inr e) = cc

pub all_listed :
    (place : ℕ) (calls : List Call) (answers : List (Result Answer Fault))
    → (length calls ≡ 0) ⊎ (length answers ≡ 0)
    → (all whole : List ℕ) → all ++ call_rows place calls answers ≡ whole → all ≡ whole
all_listed place calls answers over all whole e =
    sym (append-nil all) ∙ ap (λ rows. all ++ rows) (sym (no_rows place calls answers over)) ∙ e
