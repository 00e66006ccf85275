-- A text about a file's vectors has the listing of the file in it.
use Rattle.std.proofs.Common.{◌≡◌, ℕ, List, length, IfOk, Ok, Err, vec_items, string_bytes, Option}
use Rattle.std.proofs.Common.{Result, sym, subst}
use Rattle.std.specs.declared.string.String.{String}
use Rattle.protocol.specs.declared.call.Call.{Call}
use Rattle.protocol.specs.declared.fault.Fault.{Fault}
use Rattle.memory.specs.Lines.{word_lines}
use Rattle.book.specs.Exact.{exact, exact_new}
use Rattle.book.specs.Meaning.{Kind}
use Rattle.condensed.specs.Condensed.{condensed, condensed_new}
use Rattle.machine.specs.Running.{run_of}
use Rattle.calls.specs.declared.file.BookKind.{BookKind}
use Rattle.calls.specs.declared.file.BookKind.TheVariants.{Exact, Condensed}
use Rattle.calls.specs.declared.file.CallsFile.{CallsFile}
use Rattle.listing.specs.Listing.{run_text, book_text, calls_file_text}

-- The listing of a run over some words, from a state of a book.
abbrev pub words_text : (k : Kind) → k.State → List ℕ → List ℕ → List Call → Option Fault → ℕ
    → List ℕ
words_text k page stamps values calls found limit =
    run_text (run_of k (word_lines values) page stamps calls) calls found limit

module _ (listing_in : List ℕ → List ℕ) where
  -- A text about equal parts has the same listing in it.
  pub listed_alike :
      {A E : Type 0} (k : Kind) (r : Result (String A) E) (page new : k.State)
      (st st' va va' : List ℕ)
      (ca ca' : List Call) (found : Option Fault) (limit : ℕ)
      → page ≡ new → st' ≡ st → va' ≡ va → ca' ≡ ca → limit ≡ length va
      → IfOk r (λ t. listing_in (string_bytes t) ≡ words_text k page st' va' ca' found limit)
      → IfOk r (λ t. listing_in (string_bytes t) ≡ words_text k new st va ca found (length va))
  listed_alike k (Ok t) page new st st' va va' ca ca' found limit p s v c n h = cc
  listed_alike k (Err e) page new st st' va va' ca ca' found limit p s v c n h = tt

module _ (listing_in : List ℕ → List ℕ) {A E : Type 0} (r : Result (String A) E)
    (file : CallsFile) where
  abbrev stamps : List ℕ
  stamps = vec_items file.stamps

  abbrev values : List ℕ
  values = vec_items file.values

  abbrev calls : List Call
  calls = vec_items file.calls

  listed_by :
      (kind : BookKind) → file.book ≡ kind
      → IfOk r (λ t. listing_in (string_bytes t) ≡ book_text kind stamps values calls file.fault)
      → IfOk r (λ t. listing_in (string_bytes t) ≡ calls_file_text file)
  listed_by kind is h =
      subst (λ b. IfOk r
      (λ t. listing_in (string_bytes t) ≡ book_text b stamps values calls file.fault))
      (sym is) h

  pub exact_listed :
      file.book ≡ Exact
      → IfOk r
      (λ t. listing_in (string_bytes t)
      ≡ words_text exact exact_new stamps values calls file.fault (length values))
      → IfOk r (λ t. listing_in (string_bytes t) ≡ calls_file_text file)
  unfolding book_text
  exact_listed is h = listed_by Exact is h

  pub condensed_listed :
      file.book ≡ Condensed
      → IfOk r
      (λ t. listing_in (string_bytes t)
      ≡ words_text condensed condensed_new stamps values calls file.fault (length values))
      → IfOk r (λ t. listing_in (string_bytes t) ≡ calls_file_text file)
  unfolding book_text
  condensed_listed is h = listed_by Condensed is h
