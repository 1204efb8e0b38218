pub mod Equations
pub mod InOrder
