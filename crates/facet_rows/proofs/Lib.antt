pub mod MapRows
pub mod Members
pub mod NextFacets
