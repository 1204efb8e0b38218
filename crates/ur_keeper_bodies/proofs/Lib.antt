pub mod Cells
pub mod Growing
pub mod Inverse
pub mod NamedReading
pub mod Places
pub mod Stores
pub mod Tables
mod Examples
pub mod Named
pub mod Options
pub mod Reading
pub mod RowLaws
pub mod Splitting
pub mod Texts
pub mod Words
