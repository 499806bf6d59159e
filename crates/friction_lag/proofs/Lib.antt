pub mod Examples
pub mod Motions
pub mod Pulls
pub mod Sizes
pub mod SmoothLengths
pub mod Standing
pub mod Unloaded
