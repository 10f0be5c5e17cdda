pub mod Memory
pub mod Modules
pub mod Policies
