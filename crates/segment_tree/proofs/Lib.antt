pub mod Blanks
pub mod Climb
pub mod Levels
