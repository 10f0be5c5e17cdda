pub mod ValidModules
pub mod ReadModules
pub mod IdsAreNames
pub mod PlayableEvents
pub mod Policies
