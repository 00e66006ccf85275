-- Every row is idle at its stamp; a refused shape has no rows.
use Rattle.std.proofs.Common.{◌≡◌, map, take, refl, ap, ◌∙◌}
use Rattle.rules.specs.State.{idle_row}
use Rattle.rules.specs.Making.{first_warp_rows, making_fault}
use Rattle.machine.specs.Warps.{warp_rows, queue_of}
use Rattle.machine.proofs.FirstRows.{first_rows_of_good_shape, no_rows_of_refused_shape}
use Rattle.machine.proofs.ServeSteps.{built}
use Rattle.machine.proofs.machine.Machine.make.Goals as goal
use Rattle.machine.proofs.machine.Machine.make.Goals.{then-is_ok, else-is_ok}

pub returns-clause-machine : goal.returns-clause-machine
returns-clause-machine g c =
    let found = making_fault g.B.Book.kind (g.B.Book.model c.args.book) c.args.stamps.now in
    let rows : warp_rows c.new.result ≡ first_warp_rows found c.args.stamps.now =
    elim c.if-is_ok.branch [
      | then-is_ok w ↦ c.new.ensures.warp_rows ∙ ap (λ s. map idle_row (take 32 s.now)) w.warps-is
          ∙ first_rows_of_good_shape c.args.stamps.now _ _ found _ _ refl
          c.check_shape-shape.ensures c.is_ok.ensures.value w.if-is_ok.true
      | else-is_ok w ↦ c.new.ensures.warp_rows ∙ ap (λ s. map idle_row (take 32 s.now)) w.warps-is
          ∙ no_rows_of_refused_shape c.args.stamps.now found _ _ c.check_shape-shape.ensures
          c.is_ok.ensures.value w.if-is_ok.false
    ] in
    let lines = g.M.Memory.at c.args.memory in
    let book = g.B.Book.model c.args.book in
    ap (λ rs. built {k = g.B.Book.kind} lines book rs (queue_of c.new.result)) rows
    ∙ ap (λ q. built {k = g.B.Book.kind} lines book (first_warp_rows found c.args.stamps.now) q)
    c.new.ensures.queue
