pub mod Equations
mod Refused
mod Examples
mod Meeting
