pub mod Calling
pub mod Counts
pub mod FrameEnds
pub mod FewerOperands
pub mod Lifts
pub mod Resting
pub mod TableCalls
