pub mod Calls
pub mod Faces
pub mod Outcomes
pub mod Pairs
pub mod PartPlaces
pub mod Refusals
pub mod SortedLists
pub mod Surface
