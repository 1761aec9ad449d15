mod Climbing
mod Before
mod RuleSets
pub mod Levels
