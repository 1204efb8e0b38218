pub mod Atoms
pub mod Equal
pub mod Equations
mod Examples
pub mod Extending
pub mod Fitting
pub mod Order
pub mod TypesEquations
pub mod Cells
pub mod Repeats
pub mod Taken
