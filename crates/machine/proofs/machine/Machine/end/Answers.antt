-- Idle at once if nothing was stored; else the lines of its log are given up.
use Rattle.std.proofs.Common.{sym, ◌∙◌}
use Rattle.machine.specs.Warps.{warp_rows, queue_of}
use Rattle.machine.specs.Meaning.{state, policy_of}
use Rattle.machine.proofs.TransactionEnd.{after_end_is, after_end_without_stores}
use Rattle.machine.proofs.machine.Machine.end.Goals as goal

pub returns-then-stored_count-eq0-clause-after : goal.returns-then-stored_count-eq0-clause-after
returns-then-stored_count-eq0-clause-after g c =
    let m = state g.M.Memory.at g.B.Book.kind g.B.Book.model c.args.self.now in
    after_end_without_stores (policy_of g.B.Book.kind c.args.self.now) m c.args.warp c.args.stamp
    (warp_rows c.make_idle.new.self) (queue_of c.make_idle.new.self)
    (sym c.stored_count.ensures ∙ c.if-stored_count-eq0.true)
    c.make_idle.ensures.warp_rows c.make_idle.ensures.queue

pub returns-clause-after : goal.returns-clause-after
returns-clause-after g c =
    after_end_is (policy_of g.B.Book.kind c.args.self.now)
    (state g.M.Memory.at g.B.Book.kind g.B.Book.model c.args.self.now)
    c.args.warp c.args.stamp _ _ c.as_slice.result.now c.log.ensures
    (c.as_slice.ensures.value ∙ c.lines-lines.ensures.value) c.give_up.ensures.after
