pub mod Steps
mod Inner
mod RuleSets
mod Clauses
mod Stated
mod Listed
