pub mod Alone
pub mod Ends
pub mod Suffixes
pub mod Indices
pub mod AtOnce
pub mod Plain
pub mod Cuts
pub mod RuleSets
