mod AllPairs
mod Certificates
mod HalvingCounts
pub mod OneStep
mod PairMoves
pub mod SafeSteps
mod StillPairs
