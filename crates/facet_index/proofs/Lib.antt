pub mod Metering
pub mod Played
