-- The warps' rows: reading one, setting one.
use Rattle.std.proofs.Common.{◌≡◌, ℕ, ◌<◌, List, map, length, get_or, set, sym, ap, ◌∙◌, arith}
use Rattle.std.proofs.Math.ListN.{get_or-map}
use Rattle.std.proofs.lemmas.List.{get_or_default, map-set, length-map, length-take-le}
use Rattle.rules.specs.State.{WarpRow, warp_row_at}
use Rattle.machine.specs.Logs.{store_entry}
use Rattle.machine.specs.Rows.{warp_row_in, no_row}
use Rattle.machine.specs.declared.row.Row.{Row}

pub warp_row_row : (rows : List Row) (w : ℕ)
    → warp_row_at (map warp_row_in rows) w ≡ warp_row_in (get_or rows w no_row)
warp_row_row rows w = get_or-map warp_row_in rows w no_row

-- The row at a place.
pub warp_row_here :
    (rows : List Row) (w : ℕ) (row : Row) → w < length rows → row ≡ get_or rows w row
    → warp_row_in row ≡ warp_row_at (map warp_row_in rows) w
warp_row_here rows w row low is = ap warp_row_in (is ∙ get_or_default rows w row no_row low)
    ∙ sym (warp_row_row rows w)

pub warp_rows_set :
    (rows : List Row) (w : ℕ) (row : Row) (warp_row : WarpRow) → warp_row_in row ≡ warp_row
    → map warp_row_in (set rows w row) ≡ set (map warp_row_in rows) w warp_row
warp_rows_set rows w row warp_row is = map-set warp_row_in rows w row
    ∙ ap (set (map warp_row_in rows) w) is

-- A row's number of stores is the length of its log.
pub log_long : (row : Row) → length (warp_row_in row).log ≡ row.len
log_long row =
    let size = row.size in
    let room = row.room in
    length-map _ store_entry ∙ length-take-le row.len row.stores (omega arith)
