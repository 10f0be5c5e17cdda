pub mod Asking
pub mod Codes
pub mod Going
pub mod Machines
pub mod Resting
pub mod Rounds
pub mod Starting
pub mod Stopped
