pub mod Chains
pub mod Laws
pub mod Atoms
mod Dropping
mod Filling
mod Keys
pub mod Linking
pub mod Listing
mod Walking
pub mod Stored
pub mod Hooking
