pub mod Spelling
pub mod Indents
