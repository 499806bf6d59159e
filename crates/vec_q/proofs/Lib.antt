pub mod Adjugates
pub mod Associative
pub mod CutVectors
pub mod Products
pub mod Sizes
