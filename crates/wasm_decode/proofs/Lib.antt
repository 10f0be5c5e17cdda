pub mod MembersBothWays
pub mod Greedy
pub mod ModulesBothWays
pub mod CustomSections
pub mod NumberedBodies
pub mod Answered
pub mod SectionExtents
pub mod MemberCounts
