pub mod Answering
pub mod Fields
pub mod Laws
pub mod Misfits
pub mod Parts
pub mod Saying
pub mod Wanting
