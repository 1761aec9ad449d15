mod OpenEnds
mod NoPatterns
mod RuleSets
mod Arming
