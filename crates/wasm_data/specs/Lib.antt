pub mod Cuts
pub mod Marked
pub mod Effects
pub mod Operands
pub mod Rules
