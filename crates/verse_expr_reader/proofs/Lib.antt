pub mod Taking
pub mod Faults
pub mod TypeRows
pub mod Rows
pub mod RuleSets
