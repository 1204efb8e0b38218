pub mod Opened
pub mod Having
pub mod Operators
pub mod Applying
pub mod Recording
pub mod Folding
