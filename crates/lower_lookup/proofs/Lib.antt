mod NoCallees
mod NoBases
mod PlainStatements
pub mod Targeting
mod RuleSets
