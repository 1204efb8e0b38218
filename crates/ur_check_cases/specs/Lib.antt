pub mod Binding
pub mod Covering
pub mod Steps
