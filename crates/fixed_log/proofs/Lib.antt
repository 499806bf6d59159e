pub mod Bits
pub mod Monotone
pub mod Power
pub mod Ratios
pub mod Roots
pub mod Whole
