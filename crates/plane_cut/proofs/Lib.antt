pub mod Alternative
pub mod Elimination
pub mod Exclusion
pub mod Linear
pub mod Narrowing
pub mod RaysAndWedges
pub mod Step
pub mod Weights
