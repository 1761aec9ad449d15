pub mod Tables
pub mod Bounds
pub mod Values
pub mod Nested
pub mod Nearness
pub mod Pushes
pub mod Unique
pub mod RuleSets
