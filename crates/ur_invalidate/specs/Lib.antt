pub mod Numbering
pub mod Numbers
pub mod PairClasses
pub mod Stages
pub mod Reading
pub mod Texts
