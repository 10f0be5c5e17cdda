pub mod Levels
pub mod Rest
pub mod Runs
