pub mod Refused
pub mod Views
pub mod Parts
