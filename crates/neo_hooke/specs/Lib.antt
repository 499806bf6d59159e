pub mod Block
pub mod Corners
pub mod Elements
pub mod Energy
pub mod FourNodes
pub mod Gradient
pub mod Rest
pub mod Strain
