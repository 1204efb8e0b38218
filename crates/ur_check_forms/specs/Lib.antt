pub mod Marking
pub mod Runs
pub mod Statements
pub mod Targets
pub mod Views
pub mod Promises
