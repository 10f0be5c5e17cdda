pub mod Requests
pub mod Loans
pub mod Adding
pub mod Keeping
pub mod Turning
pub mod Standing
pub mod Observing
