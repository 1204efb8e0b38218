pub mod Texts
pub mod Readings
pub mod Firsts
pub mod Spelled
pub mod Fronts
pub mod Quotes
pub mod Derivations
pub mod Comments
pub mod Symbols
pub mod Found
pub mod Cutting
pub mod Slices
mod Examples
