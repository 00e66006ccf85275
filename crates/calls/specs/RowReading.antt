-- The rows that were read, beside those of the format.
use Rattle.std.specs.Prelude.{◌≡◌, vec_items}
use Rattle.calls.specs.Format.{Rows}
use Rattle.calls.specs.declared.rows.RowsRead.{RowsRead}

-- The calls and the fault that were read are those of the rows.
pub record HoldsRows (read : RowsRead) (rows : Rows) : Type 0 where
  pub calls : vec_items read.calls ≡ rows.calls
  pub fault : read.fault ≡ rows.fault
