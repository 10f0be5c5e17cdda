pub mod Lines
pub mod Texts
pub mod Drafts
pub mod Reading
