pub mod Cuts
pub mod Levels
pub mod OwnBlocks
pub mod Rests
pub mod BlocksOnStacks
