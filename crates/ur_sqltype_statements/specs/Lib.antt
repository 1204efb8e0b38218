pub mod Found
pub mod SqlchangeFound
