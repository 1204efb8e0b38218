pub mod Binders
pub mod Broken
pub mod Chosen
mod Examples
pub mod Telling
pub mod Folding
pub mod Scoping
pub mod Stepping
