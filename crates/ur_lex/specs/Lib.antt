pub mod Spelling
pub mod Modes
pub mod Lexing
pub mod Scanning
