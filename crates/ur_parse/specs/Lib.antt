pub mod Wholes
pub mod Declares
pub mod Tables
pub mod Variants
pub mod Words
pub mod Definitions
