mod Above
mod RuleSets
