pub mod Branches
pub mod Choices
pub mod Signs
pub mod Lists
pub mod Codes
pub mod Markups
pub mod Tables
