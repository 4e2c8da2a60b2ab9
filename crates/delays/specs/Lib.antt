pub mod Report
pub mod Sample
pub mod Sampled
