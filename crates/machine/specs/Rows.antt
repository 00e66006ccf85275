-- What rows mean.
use Rattle.std.specs.Prelude.{replicate, refl}
use Rattle.std.proofs.Common.{lit<, lit≤}
use Rattle.rules.specs.State.{WarpRow}
use Rattle.rules.specs.declared.state.Phase.TheVariants.{Idle}
use Rattle.machine.specs.Logs.{first_entries}
use Rattle.machine.specs.declared.log.Store.{Store}
use Rattle.machine.specs.declared.row.Row.{Row}

-- A row of the table as a row of the rules.
abbrev pub warp_row_in : Row → WarpRow
warp_row_in row =
    record { phase = row.phase; stamp = row.stamp; log = first_entries row.len row.stores }

-- Fillers of unused places.
abbrev pub no_store : Store
no_store = record { line = 0; value = 0; inside = lit< tt }

abbrev pub no_row : Row
no_row =
    record {
      phase = Idle;
      stamp = 0;
      len = 0;
      stores = replicate 32 no_store;
      size = refl;
      room = lit≤ tt;
      on_time = lit≤ tt;
      next_on_time = lit≤ tt;
    }
