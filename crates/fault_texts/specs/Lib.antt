pub mod PolicyTexts
pub mod ModuleTexts
pub mod EventTexts
