pub mod Calls
pub mod Held
pub mod Kept
pub mod Moving
pub mod NearPairs
pub mod PartBoxes
