pub mod Notes
pub mod Examples
pub mod Waiting
pub mod Before
pub mod After
pub mod Call
