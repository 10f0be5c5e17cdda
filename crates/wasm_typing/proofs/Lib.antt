pub mod Images
pub mod Effects
pub mod Codes
