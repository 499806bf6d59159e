-- What private functions give.
pub mod Groups
pub mod PairWalk
pub mod Parts
