pub mod ByLabel
pub mod Memory
pub mod Rows
pub mod WholePolicy
