-- Words of the private functions.
pub mod Ends
pub mod Fronts
pub mod Lists
pub mod States
