-- Words of the private functions.
pub mod Cells
pub mod Entries
pub mod Matrices
pub mod Places
pub mod Products
