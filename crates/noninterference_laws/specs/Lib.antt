pub mod Observers
pub mod Runs
