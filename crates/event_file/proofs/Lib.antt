pub mod SplitLists
pub mod WithinLimits
pub mod Continuing
pub mod HeardLines
pub mod Advancing
pub mod DueAnswers
pub mod Numerals
