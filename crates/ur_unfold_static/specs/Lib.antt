pub mod Sought
pub mod Exps
pub mod Words
pub mod Held
pub mod Lists
pub mod Scopes
pub mod Closing
