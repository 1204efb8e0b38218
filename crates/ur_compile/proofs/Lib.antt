pub mod Failing
pub mod Refusing
pub mod Kept
pub mod OneStep
pub mod Renumbered
pub mod Numberings
