pub mod Gave
pub mod Standing
pub mod Settling
pub mod Racing
pub mod Downs
pub mod RuleSets
