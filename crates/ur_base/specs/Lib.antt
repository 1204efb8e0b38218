pub mod Codes
pub mod Counts
pub mod FaultPlans
pub mod formers
pub mod Rooms
pub mod Shape
pub mod Stopping
pub mod Told
