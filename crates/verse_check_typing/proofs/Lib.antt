pub mod MoreNames
mod InSets
mod InTurn
mod Nothing
mod Spelled
