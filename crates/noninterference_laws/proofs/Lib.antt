pub mod AlikeRuns
pub mod LesserViews
