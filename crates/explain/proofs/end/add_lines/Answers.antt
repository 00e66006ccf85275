-- Each turn adds one line more.
use Rattle.std.proofs.Common.{◌≡◌, string_bytes, subst, arith}
use Rattle.listing.specs.Listing.{mem_rows}
use Rattle.explain.specs.Notes.{AddsRows}
use Rattle.explain.proofs.end.add_lines.Goals as goal

pub returns : goal.returns
returns g c =
    let end : c.loop-line.line ≡ c.args.limit = omega arith in
    subst
    (λ n. AddsRows (mem_rows (g.M.Memory.at c.args.machine.now.memory) n) (string_bytes c.args.text)
    (string_bytes c.loop-line.all))
    end c.loop-line.invariant
