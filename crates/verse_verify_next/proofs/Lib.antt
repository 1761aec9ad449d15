pub mod RuleSets
