pub mod Lefts
mod Examples
