pub mod FirstCheck
pub mod Equality
