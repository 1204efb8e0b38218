pub mod Chains
pub mod Classed
pub mod Joining
pub mod Arguments
pub mod Listed
pub mod Naming
pub mod Atoms
mod Params
pub mod Binders
pub mod Patterns
pub mod Removals
pub mod Signs
pub mod ParsePartsParams
