pub mod Folders
pub mod Fetched
pub mod Laws
pub mod OneRefusal
pub mod Found
pub mod Made
pub mod Numbers
pub mod Reading
pub mod Facing
pub mod Cuts
pub mod Counted
pub mod ProjectLaws
pub mod Named
pub mod Listed
pub mod Places
pub mod Refusing
mod Examples
