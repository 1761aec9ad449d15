pub mod Clauses
pub mod Cases
pub mod LeafForms
pub mod WordForms
pub mod RuleSets
