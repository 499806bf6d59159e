-- Words of the private functions.
pub mod Descents
pub mod Systems
pub mod WorkingSims
