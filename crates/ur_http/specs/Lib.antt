pub mod Fields
pub mod Requests
pub mod Items
pub mod Answers
pub mod Reading
pub mod Buffers
pub mod Texts
