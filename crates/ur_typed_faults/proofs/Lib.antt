mod Refused
mod Wholes
mod Breaches
mod Declaring
mod Converse
mod Counted
mod Explained
mod ExplainedDecls
mod ExplainedForms
mod ExplainedNames
mod ExplainedTables
mod ExplainedXml
mod Refusals
mod Lacking
pub mod Expressions
pub mod Queries
pub mod Changes
