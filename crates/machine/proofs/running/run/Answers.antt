-- The laws of the calls that are made.
use Rattle.rules.proofs.AccountsLaw.{law_of_accounts}
use Rattle.rules.proofs.Explanation.{law_of_explanation}
use Rattle.rules.proofs.Fetches.{law_of_fetches}
use Rattle.rules.proofs.ProductOrder.{product_covers}
use Rattle.rules.proofs.TablesLaw.{law_of_tables}
use Rattle.rules.proofs.WaitsLaw.{law_of_waits}
use Rattle.rules.specs.Queue.{product_policy}
use Rattle.machine.specs.Running.{calls_made}
use Rattle.machine.proofs.running.run.Goals as goal

pub returns-clause-accounts : goal.returns-clause-accounts
returns-clause-accounts g c =
    law_of_accounts g.B.Book.kind g.met.B.Book.keeps (product_policy g.B.Book.kind)
    (g.M.Memory.at c.args.memory) (g.B.Book.model c.args.book)
    (g.met.B.Book.good c.args.book) c.args.stamps.now
    (calls_made c.args.calls.now c.args.answers.now)

pub returns-clause-explained : goal.returns-clause-explained
returns-clause-explained g c =
    law_of_explanation g.B.Book.kind (law_of_accounts g.B.Book.kind) g.met.B.Book.keeps
    (product_policy g.B.Book.kind) (g.M.Memory.at c.args.memory)
    (g.B.Book.model c.args.book) (g.met.B.Book.good c.args.book) c.args.stamps.now
    (calls_made c.args.calls.now c.args.answers.now)

pub returns-clause-waits : goal.returns-clause-waits
returns-clause-waits g c =
    law_of_waits g.B.Book.kind g.met.B.Book.keeps (product_policy g.B.Book.kind)
    (product_covers g.B.Book.kind) (g.M.Memory.at c.args.memory)
    (g.B.Book.model c.args.book) (g.met.B.Book.good c.args.book) c.args.stamps.now
    (calls_made c.args.calls.now c.args.answers.now)

pub returns-clause-tables : goal.returns-clause-tables
returns-clause-tables g c =
    λ taken. law_of_tables g.B.Book.kind g.met.B.Book.keeps (product_policy g.B.Book.kind)
    (g.M.Memory.at c.args.memory) (g.B.Book.model c.args.book)
    (g.met.B.Book.good c.args.book) c.args.stamps.now taken
    (calls_made c.args.calls.now c.args.answers.now)

pub returns-clause-fetches : goal.returns-clause-fetches
returns-clause-fetches g c =
    law_of_fetches g.B.Book.kind (product_policy g.B.Book.kind) (g.M.Memory.at c.args.memory)
    (g.B.Book.model c.args.book) c.args.stamps.now
    (calls_made c.args.calls.now c.args.answers.now)
