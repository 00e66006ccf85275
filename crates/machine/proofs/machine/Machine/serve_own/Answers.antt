-- By the access: a load notes its read, a store is counted and logged.
use Rattle.machine.specs.Warps.{warp_rows}
use Rattle.machine.specs.Meaning.{state}
use Rattle.machine.proofs.ServeSteps.{room_for_store, own_read_served, own_read_value}
use Rattle.machine.proofs.ServeSteps.{own_write_served, own_write_stored}
use Rattle.machine.proofs.machine.Machine.serve_own.Goals as goal

pub returns-in-Read-clause-after : goal.returns-in-Read-clause-after
returns-in-Read-clause-after g c =
    own_read_served (state g.M.Memory.at g.B.Book.kind g.B.Book.model c.args.self.now)
    c.args.request.warp
    c.args.request.line _ c.args.request.access c.in-Read.is c.note_read.ensures.after

pub returns-in-Read-clause-answer : goal.returns-in-Read-clause-answer
returns-in-Read-clause-answer g c =
    own_read_value (state g.M.Memory.at g.B.Book.kind g.B.Book.model c.args.self.now)
    c.args.request.warp
    c.args.request.line _ c.args.request.access c.in-Read.is c.own_value-value.ensures

pub log_store-requires-clause-room : goal.log_store-requires-clause-room
log_store-requires-clause-room g c =
    room_for_store (state g.M.Memory.at g.B.Book.kind g.B.Book.model c.args.self.now)
    c.args.request.warp
    c.args.request.line c.args.request.access c.in-Write.value c.in-Write.is c.requires.room

pub returns-in-Write-clause-after : goal.returns-in-Write-clause-after
returns-in-Write-clause-after g c =
    let m = state g.M.Memory.at g.B.Book.kind g.B.Book.model c.args.self.now in
    own_write_served m c.args.request.warp c.args.request.line (g.B.Book.model c.add.new.self)
    (warp_rows c.log_store.new.self) _ c.in-Write.value c.args.request.access c.in-Write.is
    c.add.ensures.after
    c.log_store.ensures.warp_rows c.log_store.ensures.queue

pub returns-in-Write-clause-answer : goal.returns-in-Write-clause-answer
returns-in-Write-clause-answer g c =
    own_write_stored (state g.M.Memory.at g.B.Book.kind g.B.Book.model c.args.self.now)
    c.args.request.warp
    c.args.request.line c.in-Write.value c.args.request.access c.in-Write.is
