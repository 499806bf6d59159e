pub mod Calls
pub mod Near
