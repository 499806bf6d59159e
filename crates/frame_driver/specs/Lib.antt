pub mod Calls
pub mod Directions
pub mod Frames
pub mod Paths
pub mod Sims
