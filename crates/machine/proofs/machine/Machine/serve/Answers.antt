-- By the access: a load notes its read, a store reserves the line and is logged.
use Rattle.std.proofs.Common.{◌<◌, length, sym, ap, ◌∙◌, subst}
use Rattle.protocol.specs.Limits.{log_limit}
use Rattle.rules.specs.State.{MachineState, warp_row_of}
use Rattle.machine.specs.Phases.{is_open}
use Rattle.machine.specs.Warps.{warp_rows}
use Rattle.machine.specs.Meaning.{state}
use Rattle.machine.proofs.ServeSteps.{room_for_store, read_served, read_value, write_served}
use Rattle.machine.proofs.ServeSteps.{write_stored}
use Rattle.machine.proofs.machine.Machine.serve.Goals as goal

pub returns-in-Read-clause-after : goal.returns-in-Read-clause-after
returns-in-Read-clause-after g c =
    read_served (state g.M.Memory.at g.B.Book.kind g.B.Book.model c.args.self.now)
    c.args.request.warp
    c.args.request.line _ c.args.request.access c.in-Read.is c.note_read.ensures.after

pub returns-in-Read-clause-answer : goal.returns-in-Read-clause-answer
returns-in-Read-clause-answer g c =
    read_value (state g.M.Memory.at g.B.Book.kind g.B.Book.model c.args.self.now)
    c.args.request.warp
    c.args.request.line _ c.args.request.access c.in-Read.is c.memory_value-value.ensures

pub log_store-requires-clause-open : goal.log_store-requires-clause-open
log_store-requires-clause-open g c =
    ap (λ (m : MachineState _). is_open (warp_row_of m c.args.request.warp).phase)
    c.reserve.ensures.after ∙ c.requires.open

pub log_store-requires-clause-room : goal.log_store-requires-clause-room
log_store-requires-clause-room g c =
    let m = state g.M.Memory.at g.B.Book.kind g.B.Book.model c.args.self.now in
    let w = c.args.request.warp in
    subst (λ (m : MachineState _). length (warp_row_of m w).log < log_limit)
    (sym c.reserve.ensures.after)
    (room_for_store m w c.args.request.line c.args.request.access c.in-Write.value c.in-Write.is
    c.requires.room)

pub returns-in-Write-clause-after : goal.returns-in-Write-clause-after
returns-in-Write-clause-after g c =
    let m = state g.M.Memory.at g.B.Book.kind g.B.Book.model c.args.self.now in
    let mid = state g.M.Memory.at g.B.Book.kind g.B.Book.model c.reserve.new.self in
    write_served m c.args.request.warp c.args.request.line mid
    (warp_rows c.log_store.new.self) _ c.in-Write.value
    c.args.request.access c.in-Write.is c.reserve.ensures.after c.log_store.ensures.warp_rows
    c.log_store.ensures.queue

pub returns-in-Write-clause-answer : goal.returns-in-Write-clause-answer
returns-in-Write-clause-answer g c =
    write_stored (state g.M.Memory.at g.B.Book.kind g.B.Book.model c.args.self.now)
    c.args.request.warp
    c.args.request.line c.in-Write.value c.args.request.access c.in-Write.is
