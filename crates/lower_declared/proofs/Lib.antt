mod Splitting
mod Lines
mod Placing
mod RuleSets
