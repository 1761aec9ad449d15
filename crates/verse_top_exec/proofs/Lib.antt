pub mod Takes
pub mod HeapLines
pub mod InsideRuns
pub mod TurnLemmas
pub mod Leaving
pub mod StreamLemmas
pub mod Executions
pub mod Shortly
