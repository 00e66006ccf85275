pub mod Scan
pub mod Lines
pub mod Examples
pub mod Digits
pub mod Rows
pub mod Ends
pub mod RunRows
