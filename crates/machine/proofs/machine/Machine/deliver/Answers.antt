-- By the outcome.
use Rattle.std.proofs.Common.{refl, ap}
use Rattle.machine.specs.Phases.{is_settled}
use Rattle.machine.specs.Warps.{warp_rows, queue_of}
use Rattle.machine.specs.Meaning.{state, policy_of}
use Rattle.machine.proofs.AccessSteps.{fetch_going_on, fetch_gone}
use Rattle.machine.proofs.machine.Machine.deliver.Goals as goal

pub resume-requires : goal.resume-requires
resume-requires g c = ap is_settled c.requires.settled

pub returns-in-Gone : goal.returns-in-Gone
returns-in-Gone g c =
    let m = state g.M.Memory.at g.B.Book.kind g.B.Book.model c.args.self.now in
    let policy = policy_of g.B.Book.kind c.args.self.now in
    let done = fetch_gone policy m c.args.warp _ _ c.in-Gone.cause c.in-Gone.next
    c.args.outcome c.in-Gone.is c.end_as_gone.ensures.after c.end_as_gone.ensures.answer in
    record { after = done.machine; answer = done.says; memory = c.end_as_gone.ensures.memory }

pub returns-in-Value : goal.returns-in-Value
returns-in-Value g c =
    let m = state g.M.Memory.at g.B.Book.kind g.B.Book.model c.args.self.now in
    let policy = policy_of g.B.Book.kind c.args.self.now in
    let done = fetch_going_on policy m c.args.warp (warp_rows c.resume.new.self)
    (queue_of c.resume.new.self) c.into.result
    c.args.outcome c.in-Value.is c.resume.ensures.warp_rows c.resume.ensures.queue c.into.ensures in
    record { after = done.machine; answer = done.says; memory = refl }
