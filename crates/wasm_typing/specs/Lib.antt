pub mod Operands
pub mod Opcodes
pub mod Scopes
