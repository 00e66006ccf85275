-- What the contracts of a crate over the library cite.

-- a memory: its lines
pub use Rattle.memory.specs.Lines
-- a version book: what every book keeps, the exact book and the condensed one
pub use Rattle.book.specs.Meaning as BookMeaning
pub use Rattle.book.specs.Exact
pub use Rattle.condensed.specs.Condensed
-- a machine: its state, and what a run leaves
pub use Rattle.machine.specs.Meaning as MachineMeaning
pub use Rattle.machine.specs.Running
-- the rules: what a call does, and the laws that every run keeps
pub use Rattle.rules.specs.Runs
pub use Rattle.rules.specs.Laws
