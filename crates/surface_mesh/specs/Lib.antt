pub mod Calls
pub mod Edges
pub mod Materials
pub mod Safety
pub mod Setup
pub mod Sturdy
