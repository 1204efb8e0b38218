mod Items
mod Declaring
pub mod Ending
mod Listed
mod Constraints
mod Tables
mod Variants
mod Params
mod Definitions
mod Functions
mod Values
mod ParseModuleDeclaring
mod Modules
