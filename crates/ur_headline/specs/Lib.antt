pub mod Readings
pub mod Source
pub mod Serves
pub mod Counting
pub mod Continuing
pub mod Served
pub mod Laws
