pub mod Fine
pub mod Moves
pub mod Laws
