pub mod Aiming
pub mod Marking
pub mod Running
pub mod Same
pub mod Stating
pub mod Trees
