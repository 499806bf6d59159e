pub mod Calls
pub mod Planes
