-- Words of the private calls.
pub mod Choices
pub mod SumsOfWays
pub mod Ways
