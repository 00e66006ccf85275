mod NewBook
mod SharedMark
mod FullBook
pub mod FreeSlots
