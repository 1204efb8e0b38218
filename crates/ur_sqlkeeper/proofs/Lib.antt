pub mod Calls
pub mod Entries
pub mod Orders
pub mod Queries
pub mod States
pub mod Texts
pub mod Writes
