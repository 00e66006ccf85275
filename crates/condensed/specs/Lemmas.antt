-- The proof that the condensed book keeps what every book must, and the lemmas that it needs.
pub mod Indices
pub mod Filters
pub mod Slots
pub mod SoundLines
pub mod Changes
pub mod CondensedKeeps
