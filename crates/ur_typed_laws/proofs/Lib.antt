mod All
pub mod Applications
pub mod Binding
pub mod Branching
mod Elements
mod Folding
mod Forms
mod Further
mod Marking
mod Names
pub mod Numbers
mod Records
mod Sound
mod Sql
pub mod Stating
pub mod Tagging
pub mod Wanting
pub mod Distinct
mod Queried
pub mod Walked
mod WalkedCalls
mod WalkedCases
mod WalkedFolds
mod WalkedForms
mod WalkedLiterals
mod WalkedRecords
mod WalkedStatements
mod WalkedXml
pub mod Whole
pub mod Bodies
pub mod Declared
pub mod Finding
pub mod Going
pub mod Larger
pub mod Lists
pub mod Routes
pub mod Unique
pub mod Wider
pub mod Written
pub mod Among
mod Bodying
mod Cookies
mod Counting
pub mod Extending
pub mod Given
pub mod Made
pub mod Standing
pub mod Upwards
mod Begun
mod SoundLawsBodying
mod Declaring
mod Ending
mod Holding
mod Kinding
mod Moduling
mod Routing
mod Stepping
mod Tabling
mod Varying
mod Walking
mod Widening
mod Writing
pub mod Leading
pub mod Led
mod Marks
pub mod More
pub mod Options
mod Rules
mod StatementLawsMarks
mod StatementLawsWalked
mod StatementLawsDeclared
