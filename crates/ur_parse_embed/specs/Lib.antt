pub mod Levels
pub mod Signs
pub mod Columns
pub mod Leaves
pub mod Pieces
pub mod Items
pub mod ParseSelectColumns
pub mod Skeletons
