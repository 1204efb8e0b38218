pub mod Quotes
pub mod Brackets
pub mod Absent
pub mod Insides
pub mod Filled
pub mod Laws
