mod Inserting
mod Untyped
mod Steps
mod Pairs
mod SqlchangeUntyped
