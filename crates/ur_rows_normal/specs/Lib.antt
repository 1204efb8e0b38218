pub mod Standing
pub mod Scope
pub mod Arguments
pub mod Listed
pub mod Walk
pub mod Preparing
