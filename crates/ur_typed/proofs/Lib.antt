pub mod Declared
pub mod Examples
pub mod Keyed
pub mod Literals
pub mod Parts
pub mod Shapes
