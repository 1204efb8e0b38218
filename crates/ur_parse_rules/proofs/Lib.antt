pub mod Tokens
pub mod Inversions
pub mod Once
pub mod Steps
pub mod Numbers
pub mod Choices
pub mod LinesDecided
pub mod Tests
pub mod Checks
pub mod Starts
pub mod Firsts
pub mod Most
pub mod Table
pub mod Leads
pub mod Choice
pub mod Places
pub mod Watches
pub mod RawCode
pub mod Special
pub mod Lines
pub mod ConDecided
pub mod ExpDecided
pub mod SqlDecided
pub mod XmlDecided
pub mod CodeDecided
pub mod DeclDecided
pub mod AllDecided
mod Reader
mod Examples
mod Samples
mod Applications
mod Embedded
mod Skeletons
