pub mod Tags
pub mod Literal
pub mod Faults
pub mod Views
pub mod Laws
