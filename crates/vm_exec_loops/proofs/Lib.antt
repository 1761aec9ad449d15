pub mod Jumping
pub mod Values
pub mod Turns
pub mod RuleSets
