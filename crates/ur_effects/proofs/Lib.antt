pub mod Chains
pub mod Equations
pub mod Routes
pub mod Searching
