pub mod Store
pub mod Rows
pub mod Walk
pub mod Views
pub mod Room
pub mod Puts
pub mod Kept
