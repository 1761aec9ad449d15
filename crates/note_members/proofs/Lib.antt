pub mod Steps
mod Indexed
