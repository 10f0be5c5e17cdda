pub mod NamesWithinCounts
pub mod Granting
pub mod Raises
pub mod Resuming
pub mod ShownWishes
pub mod Writing
