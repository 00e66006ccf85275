-- What the warps' table means: a row for each warp, and the requests that wait.
use Rattle.std.specs.Prelude.{ℕ, Bool, true, List, map, length, Some, None, Option, nat_lt}
use Rattle.protocol.specs.Limits.{log_limit}
use Rattle.rules.specs.State.{WarpRow, warp_row_at}
use Rattle.rules.specs.declared.state.Access.{Access}
use Rattle.rules.specs.declared.state.Access.TheVariants.{Read, Write}
use Rattle.rules.specs.declared.state.Request.{Request}
use Rattle.machine.specs.Rows.{warp_row_in}
use Rattle.machine.specs.declared.warps.Warps.{Warps}

abbrev pub warp_rows : Warps → List WarpRow
warp_rows t = map warp_row_in t.rows.items

abbrev pub queue_of : Warps → List Request
queue_of t = t.queue

abbrev pub warp_row : Warps → ℕ → WarpRow
warp_row t w = warp_row_at (warp_rows t) w

-- The log has room for an access: a store needs one more place.
abbrev pub has_room : WarpRow → Access → Bool
has_room row Read = true
has_room row (Write value) = nat_lt (length row.log) log_limit

abbrev pub has_room_for : WarpRow → Option Access → Bool
has_room_for row None = true
has_room_for row (Some access) = has_room row access
