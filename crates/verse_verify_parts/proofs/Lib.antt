pub mod Lists
pub mod Locals
pub mod Naming
pub mod RuleSets
