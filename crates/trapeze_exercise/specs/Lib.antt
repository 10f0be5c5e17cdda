pub mod Generated
pub mod BuiltIn
