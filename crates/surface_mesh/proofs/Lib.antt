pub mod FirstTets
pub mod GivenShares
pub mod SetupFacts
pub mod ShareLists
pub mod ShortEdges
