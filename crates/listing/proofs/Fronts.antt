-- Files that are read alike are listed alike.
use Rattle.std.proofs.Common.{◌≡◌, ℕ, List, Some, None, Option, refl, ap, ◌∙◌}
use Rattle.protocol.specs.declared.fault.Fault.{Fault}
use Rattle.calls.specs.Format.{header_fault, book_named, first_stamps, first_values, file_rows}
use Rattle.calls.specs.Front.{ReadAlike, Suffices}
use Rattle.calls.specs.declared.file.BookKind.{BookKind}
use Rattle.listing.specs.Listing.{sound_text, file_text, listing_text, FrontIsEnough}

module _ (a b : List ℕ) where
  sound_alike :
      (named : Option BookKind) → first_stamps a ≡ first_stamps b → first_values a ≡ first_values b
      → file_rows a ≡ file_rows b
      → sound_text named a ≡ sound_text named b
  sound_alike None s v r = refl
  sound_alike (Some kind) s v r = cc

  file_alike : (alike : ReadAlike a b) (found : Option Fault) → header_fault b ≡ found
      → file_text found a ≡ file_text found b
  file_alike alike (Some fault) is = refl
  file_alike alike None is =
      ap (λ letter. sound_text (book_named letter) a) alike.same_book
      ∙ sound_alike _ (alike.same_stamps is) (alike.same_values is) (alike.same_rows is)

  listed_alike : ReadAlike a b → listing_text a ≡ listing_text b
  listed_alike alike = ap (λ found. file_text found a) alike.same_fault
      ∙ file_alike alike (header_fault b) refl

pub front_listed : (n : ℕ) → Suffices n → FrontIsEnough n
front_listed n suffices bytes = listed_alike _ bytes (suffices bytes)
