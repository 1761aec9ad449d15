pub mod Adding
pub mod Agreeing
pub mod Answering
mod Bare
