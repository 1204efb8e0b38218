pub mod Acts
pub mod Refused
pub mod Search
pub mod Writes
