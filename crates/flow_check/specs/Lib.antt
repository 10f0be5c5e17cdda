pub mod Sound
pub mod Verdicts
pub mod Kept
pub mod Taken
