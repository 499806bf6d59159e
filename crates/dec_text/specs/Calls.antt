-- Words of private calls: a text as its parts, and what is known of a quotient.
pub mod Reader
pub mod Quotient
