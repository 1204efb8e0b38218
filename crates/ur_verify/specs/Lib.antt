pub mod Scope
pub mod Laws
pub mod Misfits
pub mod VerifyScope
pub mod Terms
pub mod Verifying
