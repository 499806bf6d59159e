pub mod Activity
pub mod Beyond
pub mod Examples
pub mod Falling
pub mod NoBlocks
pub mod Pulls
pub mod Sizes
pub mod Steepness
