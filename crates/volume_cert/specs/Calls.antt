-- The words of private functions' contracts.
pub mod Bernstein
pub mod Raws
