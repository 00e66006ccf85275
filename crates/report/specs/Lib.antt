pub mod Rows
pub mod Compared
