mod RuleSets
pub mod Tests
pub mod Counting
pub mod Grouping
mod Leaving
