pub mod Box
pub mod Boxes
pub mod Mesh
pub mod Moved
pub mod Spots
pub mod Vectors
pub mod Weights
pub mod Wide
