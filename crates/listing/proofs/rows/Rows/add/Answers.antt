-- The rows are text, with the row or without it.
use Rattle.std.proofs.Common.{ap, ◌∙◌, ◌++◌, cond, is_ok}
use Rattle.listing.proofs.Tails.{row_added}
use Rattle.listing.proofs.rows.Rows.add.Goals as goal

pub invariant_of-self : goal.invariant_of-self
invariant_of-self c =
    let row = c.args.row.now in
    let old = c.args.self.now.bytes.items in
    record {
      utf8 =
          row_added (is_ok c.extend_from_slice.result) _ old _ row.utf8 c.args.self.now.utf8
          (c.extend_from_slice.ensures.items
          ∙ ap (λ bytes. cond (is_ok c.extend_from_slice.result) (old ++ bytes) old)
          c.as_bytes.ensures);
    }
