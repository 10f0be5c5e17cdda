pub mod TellsMore
pub mod NextLines
pub mod Deciding
