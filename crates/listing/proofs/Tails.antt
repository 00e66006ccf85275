-- What is written before a row's tail leaves it UTF-8, and so does a row that is added to others.
use Rattle.std.proofs.Common.{◌≡◌, ℕ, ◌<◌, Bool, true, false, cond, List, [], ◌∷◌, ◌++◌, length}
use Rattle.std.proofs.Common.{drop, subst, sym, arith}
use Rattle.std.specs.Prelude.{IsUtf8}
use Rattle.std.proofs.Math.Logic.{∥∥₁_map, ∥∥₁_map₂}
use Rattle.std.proofs.lemmas.Grind.{merely}
use Rattle.std.proofs.lemmas.List.{drop_all}
use Rattle.std.proofs.lemmas.Str.{IsUtf8-append, IsUtf8-from_ascii, IsUtf8-nil}
use Rattle.std.proofs.lemmas.Str.Ascii.{IsAscii-cons, IsAscii-nil}

pub text_before :
    (front old new : List ℕ) → IsUtf8 front → new ≡ front ++ old → ∥ IsUtf8 old ∥₁ → ∥ IsUtf8 new ∥₁
text_before front old new text e kept =
    ∥∥₁_map kept (λ rest. subst IsUtf8 (sym e) (IsUtf8-append front old text rest))

pub ascii_byte : (byte : ℕ) → byte < 128 → IsUtf8 (byte ∷ [])
ascii_byte byte h = IsUtf8-from_ascii _ (IsAscii-cons byte [] h IsAscii-nil)

pub row_added :
    (added : Bool) (row old new : List ℕ) → ∥ IsUtf8 row ∥₁ → ∥ IsUtf8 old ∥₁
    → new ≡ cond added (old ++ row) old
    → ∥ IsUtf8 new ∥₁
row_added true row old new text kept e =
    ∥∥₁_map₂ kept text (λ o r. subst IsUtf8 (sym e) (IsUtf8-append old row o r))
row_added false row old new text kept e = ∥∥₁_map kept (λ o. subst IsUtf8 (sym e) o)

-- Behind the last byte nothing stands.
pub none_left : (bytes : List ℕ) → length bytes ≡ 96 → drop 96 bytes ≡ []
none_left bytes e = drop_all 96 bytes (omega (arith, e))

pub text_of_none : (bytes : List ℕ) → bytes ≡ [] → ∥ IsUtf8 bytes ∥₁
text_of_none bytes e = merely (subst IsUtf8 (sym e) IsUtf8-nil)
