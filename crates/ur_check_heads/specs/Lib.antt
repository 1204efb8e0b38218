pub mod Heading
pub mod Views
pub mod Aims
pub mod Entries
pub mod Forms
pub mod Routes
pub mod Words
