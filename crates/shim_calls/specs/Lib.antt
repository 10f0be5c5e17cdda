pub mod Performing
pub mod Wished
