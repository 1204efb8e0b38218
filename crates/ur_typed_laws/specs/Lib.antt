pub mod Judged
pub mod Walked
pub mod One
pub mod Given
pub mod Sound
pub mod Led
pub mod Fitting
