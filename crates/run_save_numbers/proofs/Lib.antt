pub mod Limits
pub mod Firsts
pub mod Seen
pub mod Settled
mod Steps
mod Lifting
pub mod Totals
