use Rattle.std.proofs.Common.{◌≡◌, ◌+◌, ◌++◌}
use Rattle.std.specs.Iterator.Adapters.{enumerate_source, enumerate_count, zip_first, zip_second}
use Rattle.std.specs.Slice.Iter.{iter_rest}
use Rattle.listing.specs.Listing.{call_rows}
use Rattle.listing.proofs.rows.Rows.add_calls.Given as goal

-- What is listed and what is still to be listed are the whole.
abbrev pub invariant-loop-i : goal.invariant-loop-i
invariant-loop-i l =
    l.self.bytes.items
    ++ call_rows (enumerate_count l.i-iterator + 1)
    (iter_rest (zip_first (enumerate_source l.i-iterator)))
    (iter_rest (zip_second (enumerate_source l.i-iterator)))
    ≡ l.fn.self.bytes.items ++ call_rows 1 l.calls l.answers
