pub mod Cached
pub mod Entries
pub mod Held
pub mod Lends
pub mod Valid
