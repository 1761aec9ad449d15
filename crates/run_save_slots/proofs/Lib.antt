pub mod Spells
mod Steps
pub mod Orders
mod Made
