-- The words of private functions' contracts.
pub mod Cones
pub mod Differences
pub mod Elimination
