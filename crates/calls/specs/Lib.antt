pub mod Format
pub mod Front
pub mod Headers
pub mod Reading
pub mod RowReading
