-- By whether the queue is full for the line.
use Rattle.std.proofs.Common.{true, false}
use Rattle.machine.specs.Meaning.{state, policy_of}
use Rattle.machine.proofs.AccessSteps.{wait_by_room, gone_for_room, queued}
use Rattle.machine.proofs.machine.Machine.wait_or_end.Goals as goal

pub returns-then-is_full : goal.returns-then-is_full
returns-then-is_full g c =
    let m = state g.M.Memory.at g.B.Book.kind g.B.Book.model c.args.self.now in
    let policy = policy_of g.B.Book.kind c.args.self.now in
    let w = c.args.request.warp in
    let line = c.args.request.line in
    let access = c.args.request.access in
    let done = wait_by_room policy m w line access _ _ _ true _ _ c.queue_limits.ensures.line
    c.queue_limits.ensures.queue
    c.is_full.ensures c.if-is_full.true
    (gone_for_room policy m w line access _ _ c.stamp-stamp.result c.stamp-stamp.ensures.value
    c.end_as_gone.ensures.after
    c.end_as_gone.ensures.answer) in
    record { after = done.machine; answer = done.says; memory = c.end_as_gone.ensures.memory }

pub returns : goal.returns
returns g c =
    let m = state g.M.Memory.at g.B.Book.kind g.B.Book.model c.args.self.now in
    let policy = policy_of g.B.Book.kind c.args.self.now in
    let w = c.args.request.warp in
    let line = c.args.request.line in
    let access = c.args.request.access in
    let done = wait_by_room policy m w line access _ _ _ false _ _ c.queue_limits.ensures.line
    c.queue_limits.ensures.queue
    c.is_full.ensures c.if-is_full.false
    (queued policy m w line access _ c.join_queue.ensures.after) in
    record { after = done.machine; answer = done.says; memory = c.join_queue.ensures.memory }
