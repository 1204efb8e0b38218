pub mod RowType
pub mod RouteTypes
pub mod Links
pub mod Meaning
pub mod Fits
pub mod Sound
pub mod Texts
