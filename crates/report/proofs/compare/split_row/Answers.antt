-- The first row is cut off where it ends.
use Rattle.std.proofs.Common.{◌<◌, length, arith}
use Rattle.std.proofs.lemmas.Bool.Decides.{nat_tests}
use Rattle.report.proofs.Cuts.{split_rows, split_shorter}
use Rattle.report.proofs.compare.split_row.Goals as goal

pub returns-clause-rows : goal.returns-clause-rows
returns-clause-rows c =
    let some : 0 < length c.args.text.now =
    grind (arith, nat_tests, c.is_empty.ensures, c.if-is_empty.false) in
    split_rows c.args.text.now c.split_at.result.0.now c.split_at.result.1.now c.row_size.result
    some
    c.row_size.ensures.size c.split_at.ensures.front c.split_at.ensures.back

pub returns-clause-shorter : goal.returns-clause-shorter
returns-clause-shorter c =
    let some : 0 < length c.args.text.now =
    grind (arith, nat_tests, c.is_empty.ensures, c.if-is_empty.false) in
    split_shorter c.args.text.now c.split_at.result.0.now c.split_at.result.1.now c.row_size.result
    some
    c.row_size.ensures.size c.split_at.ensures.back
