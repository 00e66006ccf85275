-- When the queue fits the rows: each request belongs to a waiting warp, which has no other request,
-- and a store that waits has room in its warp's log.
use Rattle.std.specs.Prelude.{◌≡◌, Bool, true, not, ◌&&◌, List, [], ◌∷◌, is_some, nat_lt}
use Rattle.std.specs.Prelude.{slice_index_or}
use Rattle.protocol.specs.Limits.{log_limit}
use Rattle.rules.specs.Queue.{request_of}
use Rattle.rules.specs.State.{is_waiting}
use Rattle.rules.specs.declared.state.Access.{Access}
use Rattle.rules.specs.declared.state.Access.TheVariants.{Read, Write}
use Rattle.rules.specs.declared.state.Request.{Request}
use Rattle.machine.specs.Rows.{no_row}
use Rattle.machine.specs.declared.row.Row.{Row}

-- A row may have a request: its warp waits, for a store with room in its log.
abbrev pub is_fitting : Row → Access → Bool
is_fitting row Read = is_waiting row.phase
is_fitting row (Write value) = is_waiting row.phase && nat_lt row.len log_limit

abbrev pub fits_rows : List Row → List Request → Bool
fits_rows rows [] = true
fits_rows rows (r ∷ rest) =
    is_fitting (slice_index_or rows r.warp no_row) r.access
    && (not (is_some (request_of rest r.warp)) && fits_rows rows rest)

abbrev pub QueueFitsRows : List Row → List Request → Type 0
QueueFitsRows rows queue = fits_rows rows queue ≡ true
