pub mod Height
pub mod Lifts
pub mod Mapping
pub mod Occurs
pub mod Held
pub mod Arguments
