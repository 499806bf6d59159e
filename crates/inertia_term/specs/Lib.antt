pub mod Inertia
