pub mod Given
pub mod Meeting
pub mod Searching
pub mod Views
pub mod Arguments
pub mod Params
