pub mod Examples
pub mod Cases
pub mod Statuses
pub mod Printing
pub mod Answering
mod Goings
mod Sessioned
mod ObeyingIdle
mod ObeyingServed
mod ObeyingWords
mod ObeyingSaid
mod Loading
mod Noted
mod Coded
