pub mod Limits
pub mod Unfolding
pub mod Heads
pub mod Typing
pub mod Sizes
pub mod Making
