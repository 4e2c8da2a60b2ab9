pub mod Facts
pub mod Meaning
pub mod Padding
pub mod Shown
pub mod Steps
