mod Inner
mod RuleSets
mod Stated
pub mod Behind
pub mod Listed
mod Ifs
mod Variables
mod Claused
pub mod Leveled
pub mod NoPatterns
pub mod Arming
mod Formed
