pub mod Arrays
pub mod Opened
pub mod Moves
pub mod OnTop
pub mod Rules
