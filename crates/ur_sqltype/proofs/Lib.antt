mod Equations
mod Sizes
mod Steps
mod Leaves
pub mod Faultless
pub mod Fitting
pub mod Exits
pub mod SqltableValues
pub mod Once
mod Broken
pub mod Lists
pub mod Taken
mod SqltypeEquations
pub mod Missing
pub mod SqltypeValues
pub mod Kinding
pub mod Grouping
pub mod Whole
pub mod Faulty
pub mod FaultyChange
pub mod SqltypeFitting
pub mod FittingChange
