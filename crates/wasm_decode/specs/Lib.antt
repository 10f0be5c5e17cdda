pub mod Parts
pub mod Sections
pub mod Spelling
pub mod Grammar
pub mod Examples
