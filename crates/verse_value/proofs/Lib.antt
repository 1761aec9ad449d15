pub mod Steps
pub mod Seen
pub mod Sums
pub mod KeyPlaces
pub mod TextKeys
pub mod Stepping
pub mod EqualityLaw
pub mod RuleSets
