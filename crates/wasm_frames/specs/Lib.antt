pub mod Callees
pub mod Resting
pub mod Standing
pub mod Turns
