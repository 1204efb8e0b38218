pub mod Opened
pub mod Arguments
pub mod Doing
pub mod Fields
pub mod Nodes
