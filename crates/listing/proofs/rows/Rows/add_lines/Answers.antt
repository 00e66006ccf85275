-- Each turn adds the row of one line more.
use Rattle.std.proofs.Common.{◌≡◌, ◌++◌, ap, ◌∙◌, arith}
use Rattle.listing.specs.Listing.{mem_rows}
use Rattle.listing.proofs.MemRows.{one_line_more}
use Rattle.listing.proofs.rows.Rows.add_lines.Goals as goal

pub loop-line-preserved : goal.loop-line-preserved
loop-line-preserved g c =
    one_line_more (g.M.Memory.at c.args.machine.now.memory) c.loop-line.line
    c.args.self.now.bytes.items
    c.loop-line.self.bytes.items _ c.loop-line.invariant c.in_ok-add_line.ensures

pub returns : goal.returns
returns g c =
    let end : c.loop-line.line ≡ c.args.limit = omega arith in
    c.loop-line.invariant
    ∙ ap (λ n. c.args.self.now.bytes.items ++ mem_rows (g.M.Memory.at c.args.machine.now.memory) n)
    end
