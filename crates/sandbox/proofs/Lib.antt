pub mod RunEnds
pub mod WrittenMemory
