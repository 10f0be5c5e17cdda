pub mod Spaces
pub mod Digits
pub mod Spellings
pub mod Reading
