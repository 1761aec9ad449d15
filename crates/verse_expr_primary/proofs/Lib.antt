pub mod Parts
pub mod Repeats
pub mod BracketEnds
pub mod BraceParts
pub mod PrimaryParts
pub mod BracketStops
pub mod RuleSets
