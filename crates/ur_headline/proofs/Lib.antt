pub mod Carried
pub mod Growing
pub mod Carrying
pub mod Lasting
pub mod Linking
pub mod Running
pub mod Counting
pub mod Whole
