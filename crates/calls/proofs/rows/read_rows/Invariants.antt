use Rattle.std.proofs.Common.{◌≡◌, ◌-◌, ◌+◌, ◌*◌, ◌≤◌, length, vec_items}
use Rattle.std.specs.Prelude.{vec_len, vec_capacity}
use Rattle.calls.specs.Format.{rows_from}
use Rattle.calls.proofs.RowSteps.{calls_before, whole_rows}
use Rattle.calls.proofs.rows.read_rows.Given as goal

-- What has been read and what is still to be read are the whole, and there is room for each whole
-- row.
abbrev pub invariant-loop-row : goal.invariant-loop-row
invariant-loop-row l =
    record {
      number : vec_len l.calls ≡ l.row-index;
      rows : l.rows ≡ whole_rows l.bytes l.start;
      room : length l.rows ≤ vec_capacity l.calls;
      whole :
          calls_before (vec_items l.calls)
          (rows_from l.bytes (4096 - l.row-index) (l.start + 8 * l.row-index))
          ≡ rows_from l.bytes 4096 l.start;
    }
