pub mod Insides
pub mod Walks
