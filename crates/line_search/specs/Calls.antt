-- Words of the private functions.
pub mod Corners
pub mod Halvings
pub mod PairCertificates
