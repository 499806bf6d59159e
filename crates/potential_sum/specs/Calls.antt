-- Words of the private functions.
pub mod Barriers
pub mod Friction
pub mod Held
pub mod Inertia
pub mod Kept
pub mod Loose
pub mod Stiffness
pub mod Sums
pub mod Turns
