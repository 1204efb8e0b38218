pub mod Examples
pub mod Inputs
pub mod Parts
pub mod Pieces
pub mod Wires
