pub mod Pieces
pub mod Scopes
pub mod Arounds
pub mod Applied
pub mod Defaults
pub mod Lowering
pub mod Programs
