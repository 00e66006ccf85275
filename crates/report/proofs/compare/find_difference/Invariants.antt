use Rattle.std.proofs.Common.{◌+◌, ◌≤◌, length}
use Rattle.report.specs.Rows.{rows_of}
use Rattle.report.proofs.Along.{Along}
use Rattle.report.proofs.compare.find_difference.Given as goal

-- So many rows are the same, and there is still room to count as many more as there are bytes.
abbrev pub invariant-loop-our_row : goal.invariant-loop-our_row
invariant-loop-our_row l =
    Along (rows_of l.ours) (rows_of l.theirs) (rows_of l.our_rest) (rows_of l.their_rest) l.row
    × (l.row + length l.our_rest ≤ length l.ours)

abbrev pub decreases-loop-our_row : goal.decreases-loop-our_row
decreases-loop-our_row l = length l.our_rest
