mod Again
pub mod Framing
pub mod Pairs
pub mod Spelled
pub mod Spelling
pub mod Sorting
pub mod Spelt
pub mod Depths
pub mod Aligning
pub mod Table
pub mod Known
pub mod Rooted
pub mod Same
pub mod Stopped
