pub mod Cons
pub mod Decls
pub mod Exps
pub mod Skeletons
pub mod Faults
pub mod Indexed
pub mod Sorts
