-- There is a place for each call, so the laws are those of all calls.
use Rattle.std.proofs.Common.{◌∙◌}
use Rattle.rules.proofs.AccountsLaw.{law_of_accounts}
use Rattle.rules.proofs.Explanation.{law_of_explanation}
use Rattle.rules.proofs.Fetches.{law_of_fetches}
use Rattle.rules.proofs.ProductOrder.{product_covers}
use Rattle.rules.proofs.TablesLaw.{law_of_tables}
use Rattle.rules.proofs.WaitsLaw.{law_of_waits}
use Rattle.rules.specs.Queue.{product_policy}
use Rattle.rules.specs.Making.{new_machine}
use Rattle.machine.proofs.Runs.{answers_of_all}
use Rattle.machine.proofs.running.run_to_vec.Goals as goal

pub returns-clause-answers : goal.returns-clause-answers
returns-clause-answers g c =
    answers_of_all (product_policy g.B.Book.kind)
    (new_machine g.B.Book.kind (g.M.Memory.at c.args.memory)
    (g.B.Book.model c.args.book) c.args.stamps.now)
    c.as_mut_slice.result.now c.args.calls.now _ _ _
    (c.as_mut_slice.ensures.len ∙ c.in_ok-answers.ensures.len)
    c.in_ok-answers.ensures.len c.run-ran.ensures.answers

pub returns-in_err-answers-clause-accounts : goal.returns-in_err-answers-clause-accounts
returns-in_err-answers-clause-accounts g c =
    law_of_accounts g.B.Book.kind g.met.B.Book.keeps (product_policy g.B.Book.kind)
    (g.M.Memory.at c.args.memory) (g.B.Book.model c.args.book)
    (g.met.B.Book.good c.args.book) c.args.stamps.now c.args.calls.now

pub returns-in_err-answers-clause-explained : goal.returns-in_err-answers-clause-explained
returns-in_err-answers-clause-explained g c =
    law_of_explanation g.B.Book.kind (law_of_accounts g.B.Book.kind) g.met.B.Book.keeps
    (product_policy g.B.Book.kind) (g.M.Memory.at c.args.memory)
    (g.B.Book.model c.args.book) (g.met.B.Book.good c.args.book) c.args.stamps.now c.args.calls.now

pub returns-in_err-answers-clause-waits : goal.returns-in_err-answers-clause-waits
returns-in_err-answers-clause-waits g c =
    law_of_waits g.B.Book.kind g.met.B.Book.keeps (product_policy g.B.Book.kind)
    (product_covers g.B.Book.kind) (g.M.Memory.at c.args.memory)
    (g.B.Book.model c.args.book) (g.met.B.Book.good c.args.book) c.args.stamps.now c.args.calls.now

pub returns-in_err-answers-clause-tables : goal.returns-in_err-answers-clause-tables
returns-in_err-answers-clause-tables g c =
    λ taken. law_of_tables g.B.Book.kind g.met.B.Book.keeps (product_policy g.B.Book.kind)
    (g.M.Memory.at c.args.memory) (g.B.Book.model c.args.book)
    (g.met.B.Book.good c.args.book) c.args.stamps.now taken c.args.calls.now

pub returns-in_err-answers-clause-fetches : goal.returns-in_err-answers-clause-fetches
returns-in_err-answers-clause-fetches g c =
    law_of_fetches g.B.Book.kind (product_policy g.B.Book.kind) (g.M.Memory.at c.args.memory)
    (g.B.Book.model c.args.book) c.args.stamps.now
    c.args.calls.now

pub returns-clause-accounts : goal.returns-clause-accounts
returns-clause-accounts g c =
    law_of_accounts g.B.Book.kind g.met.B.Book.keeps (product_policy g.B.Book.kind)
    (g.M.Memory.at c.args.memory) (g.B.Book.model c.args.book)
    (g.met.B.Book.good c.args.book) c.args.stamps.now c.args.calls.now

pub returns-clause-explained : goal.returns-clause-explained
returns-clause-explained g c =
    law_of_explanation g.B.Book.kind (law_of_accounts g.B.Book.kind) g.met.B.Book.keeps
    (product_policy g.B.Book.kind) (g.M.Memory.at c.args.memory)
    (g.B.Book.model c.args.book) (g.met.B.Book.good c.args.book) c.args.stamps.now c.args.calls.now

pub returns-clause-waits : goal.returns-clause-waits
returns-clause-waits g c =
    law_of_waits g.B.Book.kind g.met.B.Book.keeps (product_policy g.B.Book.kind)
    (product_covers g.B.Book.kind) (g.M.Memory.at c.args.memory)
    (g.B.Book.model c.args.book) (g.met.B.Book.good c.args.book) c.args.stamps.now c.args.calls.now

pub returns-clause-tables : goal.returns-clause-tables
returns-clause-tables g c =
    λ taken. law_of_tables g.B.Book.kind g.met.B.Book.keeps (product_policy g.B.Book.kind)
    (g.M.Memory.at c.args.memory) (g.B.Book.model c.args.book)
    (g.met.B.Book.good c.args.book) c.args.stamps.now taken c.args.calls.now

pub returns-clause-fetches : goal.returns-clause-fetches
returns-clause-fetches g c =
    law_of_fetches g.B.Book.kind (product_policy g.B.Book.kind) (g.M.Memory.at c.args.memory)
    (g.B.Book.model c.args.book) c.args.stamps.now
    c.args.calls.now
