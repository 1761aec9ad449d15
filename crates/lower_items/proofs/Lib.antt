mod Splitting
mod Noting
mod Finding
mod RuleSets
