-- The stores so far are written, and what is borrowed stays.
use Rattle.std.proofs.Common.{◌≡◌, map, take}
use Rattle.rules.specs.Steps.{lines_after_stores}
use Rattle.machine.specs.Logs.{store_entry}
use Rattle.machine.proofs.parts.write_all.Given as goal

abbrev pub invariant-loop-store : goal.invariant-loop-store
invariant-loop-store g l = record {
  lines :
      g.M.Memory.at l.memory
      ≡ lines_after_stores (g.M.Memory.at l.initial.memory)
      (map store_entry (take l.store-index l.stores));
  lender : g.M.Memory.lent l.memory ≡ g.M.Memory.lent l.initial.memory;
  untouched : g.M.Memory.spare l.memory ≡ g.M.Memory.spare l.initial.memory;
}
