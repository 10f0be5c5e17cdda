pub mod Threads
pub mod Going
