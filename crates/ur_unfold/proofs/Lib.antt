pub mod Rooting
pub mod Headed
pub mod Assembled
pub mod Bounded
pub mod Larges
pub mod Zipped
pub mod Refusing
