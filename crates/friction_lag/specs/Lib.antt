pub mod Contacts
pub mod Examples
pub mod Friction
pub mod Lagged
