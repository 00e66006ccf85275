-- The rows go on together, or a row differs, or both have ended.
use Rattle.std.proofs.Common.{arith, rules}
use Rattle.report.proofs.Along.{one_more, all_same, match_exact}
use Rattle.report.proofs.compare.find_difference.Goals as goal

pub loop-our_row-preserved : goal.loop-our_row-preserved
loop-our_row-preserved c = (
  one_more _ _ _ _ _ _ c.in-Some.our_row.now c.in-Some-split_row.their_row.now _
      c.loop-our_row.invariant.0
      c.in-Some.ensures.rows c.in-Some-split_row.ensures.rows (search rules),
  omega (arith, c.in-Some.ensures.shorter),
)

pub returns-in_default-split_row-clause-exact : goal.returns-in_default-split_row-clause-exact
returns-in_default-split_row-clause-exact c = match_exact

pub returns-in-None-clause-rows : goal.returns-in-None-clause-rows
returns-in-None-clause-rows c =
    all_same c.args.ours.now c.args.theirs.now c.loop-our_row.our_rest.now
    c.loop-our_row.their_rest.now
    c.loop-our_row.row c.loop-our_row.invariant.0 (search rules) c.in-None.ensures.rows

pub returns-in-None-clause-exact : goal.returns-in-None-clause-exact
returns-in-None-clause-exact c = match_exact

pub returns-in-Some-split_row-2-clause-exact : goal.returns-in-Some-split_row-2-clause-exact
returns-in-Some-split_row-2-clause-exact c = match_exact
