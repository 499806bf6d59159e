pub mod Logarithm
pub mod Root
