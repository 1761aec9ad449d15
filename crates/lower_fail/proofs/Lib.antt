pub mod Forms
pub mod OpenEnds
pub mod Clauses
