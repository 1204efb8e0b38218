pub mod Bodies
pub mod Columns
pub mod Memory
pub mod Lines
pub mod Pieces
pub mod Rows
pub mod Stored
