pub mod Calls
pub mod Directions
pub mod Example
pub mod Jacobi
pub mod Systems
pub mod Turns
