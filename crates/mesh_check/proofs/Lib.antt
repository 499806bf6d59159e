pub mod NoDefect
pub mod OneDefect
pub mod StandingPairs
