pub mod Lines
pub mod OneFile
pub mod RuleSets
