pub mod Paths
pub mod Routes
pub mod Runs
pub mod Segments
pub mod Show
