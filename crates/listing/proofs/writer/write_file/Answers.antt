-- The run is that of the file's own vectors, over a new book of the kind that is asked for.
use Rattle.std.proofs.Common.{◌∙◌}
use Rattle.book.specs.Exact.{exact, exact_new}
use Rattle.condensed.specs.Condensed.{condensed, condensed_new}
use Rattle.listing.proofs.Listed.{listed_alike, exact_listed, condensed_listed}
use Rattle.listing.proofs.writer.write_file.Goals as goal

pub returns-in-Exact : goal.returns-in-Exact
returns-in-Exact g c =
    exact_listed g.W.ScriptWriter.listing_in c.write_script.result c.args.file c.in-Exact.is
    (listed_alike g.W.ScriptWriter.listing_in exact c.write_script.result _ exact_new _ _ _ _ _ _ _
    _
    c.new.ensures.value c.as_slice.ensures.value c.as_mut_slice.ensures.value
    c.as_slice-2.ensures.value
    (c.len.ensures ∙ c.args.file.values.ok.0) c.write_script.ensures)

pub returns : goal.returns
returns g c =
    condensed_listed g.W.ScriptWriter.listing_in c.write_script-in-Condensed.result c.args.file
    c.in-Condensed.is
    (listed_alike g.W.ScriptWriter.listing_in condensed c.write_script-in-Condensed.result _
    condensed_new _ _ _ _ _ _ _ _
    c.new-in-Condensed.ensures.value
    c.as_slice.ensures.value c.as_mut_slice.ensures.value c.as_slice-2.ensures.value
    (c.len.ensures ∙ c.args.file.values.ok.0) c.write_script-in-Condensed.ensures)
