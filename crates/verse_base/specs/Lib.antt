pub mod RuleText
pub mod Quotients
pub mod TraceLine
