pub mod AtRest
pub mod FourBlocks
pub mod Shifts
pub mod Symmetry
pub mod Worked
