-- A note grows by a line, and a line has no line feed.
use Rattle.std.proofs.Common.{◌≡◌, ℕ, zero, suc, ◌<◌, false, List, [], ◌∷◌, ◌++◌, Some, slice_get}
use Rattle.std.proofs.Common.{slice_index_or}
use Rattle.std.proofs.Common.{append_assoc, append-nil, refl, sym, ap, ◌∙◌, arith}
use Rattle.std.specs.Option.{option_map}
use Rattle.std.specs.Iterator.Runs.{EveryRun, Run, Trigger, YieldsRun}
use Rattle.std.specs.Str.Iter.{LacksByte, IsLinesRun, lines_rest, lines_steps}
use Rattle.std.specs.declared.str.Lines.{Lines}
use Rattle.std.proofs.lemmas.List.Concat.{flat_map-append}
use Rattle.std.proofs.lemmas.List.Elements.{All-push}
use denote.Ref.{Bor}
use Rattle.explain.specs.Notes.{AddsNote, indented, indented_line}

-- The only item of a list of one.
only :
    (x d : Bor (List ℕ)) (k : ℕ) → k < 1
    → option_map (λ y. y) (slice_get (x ∷ []) k) ≡ Some (slice_index_or (x ∷ []) k d)
only x d zero below = refl
only x d (suc k) below = absurd (omega arith)

-- A run of one line.
one_line : (s t : Lines) (x : Bor (List ℕ)) → lines_steps s (Some x) t → Run lines_steps
unfolding YieldsRun Trigger
one_line s t x step =
    record {
      from = s;
      items = x ∷ [];
      whole = false;
      len = 1;
      at = λ k. slice_get (x ∷ []) k;
      seen = tt;
      long = refl;
      reads = λ k d below. only x d k below;
      gave = ((t, (t, step, refl), λ e. cc), λ k. refl);
    }

pub no_feed :
    EveryRun lines_steps (λ p. IsLinesRun p (lines_rest p.from))
    → (s t : Lines) (x : Bor (List ℕ)) → lines_steps s (Some x) t → LacksByte 10 x.now
unfolding Trigger one_line
no_feed runs s t x step = ((runs (one_line s t x step) tt).2 0).1

-- One line more.
pub one_more :
    (text all new line : List ℕ) → LacksByte 10 line → AddsNote text all
    → new ≡ all ++ indented_line line → AddsNote text new
one_more text all new line lacks h e =
    let more : List ℕ = indented_line line in
    record {
      note = h.note ++ more;
      is_note =
          record {
            lines = h.is_note.lines ++ line ∷ [];
            each = All-push (LacksByte 10) h.is_note.lines line h.is_note.each lacks;
            same =
                ap (λ t. t ++ more) h.is_note.same
                ∙ ap (λ t. indented h.is_note.lines ++ t) (sym (append-nil more))
                ∙ sym (flat_map-append indented_line h.is_note.lines (line ∷ []));
          };
      grown = e ∙ ap (λ t. t ++ more) h.grown ∙ append_assoc text h.note more;
    }

-- No line yet.
pub no_line : (text : List ℕ) → AddsNote text text
no_line text =
    record {
      note = [];
      is_note = record { lines = []; each = λ k d below. absurd (omega arith); same = refl };
      grown = sym (append-nil text);
    }
