pub mod WithFloats
pub mod DifferingNames
pub mod Bodies
pub mod Entry
pub mod Imported
pub mod Refused
