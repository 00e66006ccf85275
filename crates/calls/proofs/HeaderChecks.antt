-- The first check of a header that fails is what is told.
use Rattle.std.proofs.Common.{◌≡◌, ℕ, Bool, true, false, eqb, leb, List, [], ◌∷◌, length, get_or}
use Rattle.std.proofs.Common.{is_some, Some, None, Option, refl}
use Rattle.std.specs.Option.{option_map}
use Rattle.protocol.specs.Faults.{fault_in_file}
use Rattle.protocol.specs.declared.fault.Fault.{Fault}
use Rattle.protocol.specs.declared.fault.Refusal.TheVariants.{BadSize, BadStamp, BadMark}
use Rattle.protocol.specs.declared.fault.Refusal.TheVariants.{BadVersion}
use Rattle.protocol.specs.declared.fault.Refusal.TheVariants.{BadLetter}
use Rattle.calls.specs.Format.{header_fault, first_fault, has_marks, two_bytes, book_named}
use Rattle.calls.specs.Format.{has_sizes}
use Rattle.calls.specs.Format.{rows_place, late_stamp_place, first_stamps}

only_found : (found : Option Fault) → first_fault (found ∷ []) ≡ found
only_found None = refl
only_found (Some fault) = refl

module _ (bytes : List ℕ) where
  pub wrong_mark : has_marks bytes ≡ false → header_fault bytes ≡ Some (fault_in_file BadMark 0)
  wrong_mark e = simp e

  module _ (m : has_marks bytes ≡ true) where
    pub wrong_version :
        eqb (two_bytes bytes 3) 1 ≡ false → header_fault bytes ≡ Some (fault_in_file BadVersion 3)
    wrong_version e = simp (m, e)

    module _ (v : eqb (two_bytes bytes 3) 1 ≡ true) where
      pub wrong_book :
          is_some (book_named (get_or bytes 5 0)) ≡ false
          → header_fault bytes ≡ Some (fault_in_file BadLetter 5)
      wrong_book e = simp (m, v, e)

      module _ (b : is_some (book_named (get_or bytes 5 0)) ≡ true) where
        pub wrong_size : has_sizes bytes ≡ false
            → header_fault bytes ≡ Some (fault_in_file BadSize 6)
        wrong_size e = simp (m, v, b, e)

        module _ (s : has_sizes bytes ≡ true) where
          pub long_enough :
              leb (rows_place bytes) (length bytes) ≡ true
              → header_fault bytes ≡ option_map (fault_in_file BadStamp)
              (late_stamp_place 9 (first_stamps bytes))
          long_enough e = simp (m, v, b, s, e) (only_found _)

  -- A sound header has sound sizes.
  pub sound_size : header_fault bytes ≡ None → has_sizes bytes ≡ true
  sound_size sound = go _ _ _ _ refl refl refl refl
    where
      go :
          (m v b s : Bool) → has_marks bytes ≡ m → eqb (two_bytes bytes 3) 1 ≡ v
          → is_some (book_named (get_or bytes 5 0)) ≡ b
          → has_sizes bytes ≡ s → has_sizes bytes ≡ true
      go false v b s p q r t = let e = wrong_mark p in cc
      go true false b s p q r t = let e = wrong_version p q in cc
      go true true false s p q r t = let e = wrong_book p q r in cc
      go true true true false p q r t = let e = wrong_size p q r t in cc
      go true true true true p q r t = t
