pub mod Barrier
pub mod Blocks
pub mod Examples
pub mod Gradients
