pub mod Membering
pub mod Descending
pub mod Climbing
pub mod RuleSets
