pub mod Answered
pub mod Choosing
pub mod FarPairs
pub mod FewWeights
pub mod Reach
pub mod SumsOfWays
pub mod TurnedWeights
