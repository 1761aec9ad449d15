pub mod Endings
pub mod Refusals
pub mod Images
pub mod Listings
pub mod Verdicts
pub mod Streams
