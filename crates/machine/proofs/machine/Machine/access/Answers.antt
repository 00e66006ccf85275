-- By the verdict.
use Rattle.machine.specs.Meaning.{state, policy_of}
use Rattle.machine.proofs.AccessSteps.{access_by_verdict, on_own_line, going_on, gone, must_wait}
use Rattle.machine.proofs.machine.Machine.access.Goals as goal

pub returns-in-OwnLine : goal.returns-in-OwnLine
returns-in-OwnLine g c =
    let m = state g.M.Memory.at g.B.Book.kind g.B.Book.model c.args.self.now in
    let policy = policy_of g.B.Book.kind c.args.self.now in
    let w = c.args.request.warp in
    let line = c.args.request.line in
    let access = c.args.request.access in
    let done = access_by_verdict policy m w line access _ _ _ _ _ _ c.encounter.ensures.access
    c.encounter.ensures.line
    c.encounter.ensures.time c.in-OwnLine.ensures.value
    (on_own_line policy m w line access _ c.serve_own.result _ c.serve_own.ensures.after
    c.serve_own.ensures.answer c.into.ensures) in
    record { after = done.machine; answer = done.says; memory = c.serve_own.ensures.memory }

pub returns-in-Gone : goal.returns-in-Gone
returns-in-Gone g c =
    let m = state g.M.Memory.at g.B.Book.kind g.B.Book.model c.args.self.now in
    let policy = policy_of g.B.Book.kind c.args.self.now in
    let w = c.args.request.warp in
    let line = c.args.request.line in
    let access = c.args.request.access in
    let done = access_by_verdict policy m w line access _ _ _ _ _ _ c.encounter.ensures.access
    c.encounter.ensures.line
    c.encounter.ensures.time c.in-Gone.ensures.value
    (gone policy m w line access _ _ c.in-Gone.cause c.in-Gone.next c.end_as_gone.ensures.after
    c.end_as_gone.ensures.answer) in
    record { after = done.machine; answer = done.says; memory = c.end_as_gone.ensures.memory }

pub returns-in-MustWait : goal.returns-in-MustWait
returns-in-MustWait g c =
    let m = state g.M.Memory.at g.B.Book.kind g.B.Book.model c.args.self.now in
    let policy = policy_of g.B.Book.kind c.args.self.now in
    let w = c.args.request.warp in
    let line = c.args.request.line in
    let access = c.args.request.access in
    let done = access_by_verdict policy m w line access _ _ _ _ _ _ c.encounter.ensures.access
    c.encounter.ensures.line
    c.encounter.ensures.time c.in-MustWait.ensures.value
    (must_wait policy m w line access _ _ c.wait_or_end.ensures.after c.wait_or_end.ensures.answer)
    in
    record { after = done.machine; answer = done.says; memory = c.wait_or_end.ensures.memory }

pub returns-in-GoOn : goal.returns-in-GoOn
returns-in-GoOn g c =
    let m = state g.M.Memory.at g.B.Book.kind g.B.Book.model c.args.self.now in
    let policy = policy_of g.B.Book.kind c.args.self.now in
    let w = c.args.request.warp in
    let line = c.args.request.line in
    let access = c.args.request.access in
    let done = access_by_verdict policy m w line access _ _ _ _ _ _ c.encounter.ensures.access
    c.encounter.ensures.line
    c.encounter.ensures.time c.in-GoOn.ensures.value
    (going_on policy m w line access _ c.serve.result _ c.serve.ensures.after c.serve.ensures.answer
    c.into-in-GoOn.ensures) in
    record { after = done.machine; answer = done.says; memory = c.serve.ensures.memory }
