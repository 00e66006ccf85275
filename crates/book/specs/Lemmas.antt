-- The proof that the exact book keeps what every book must, and the lemmas that it needs.
pub mod Counting
pub mod ListSet
pub mod Times
pub mod Holds
pub mod ExactKeeps
