pub mod Facts
pub mod Division
pub mod Residues
