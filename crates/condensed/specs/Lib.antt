pub mod Filter
pub mod Condensed
pub mod CondensedState
pub mod FullBook
pub mod SharedEntries
pub mod Lemmas
