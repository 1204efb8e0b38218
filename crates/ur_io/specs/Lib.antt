pub mod Calls
pub mod Files
pub mod Fronts
pub mod Memory
pub mod Real
pub mod Traffic
