pub mod Converse
pub mod SqlcauseLawsConverse
