pub mod Bodies
pub mod Entries
pub mod Rows
pub mod Serving
pub mod Table
