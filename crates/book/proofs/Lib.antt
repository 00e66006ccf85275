pub mod Earliest
pub mod NewBook
mod OneSlot
