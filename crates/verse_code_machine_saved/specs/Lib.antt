pub mod Horizons
pub mod Numbers
pub mod Resuming
pub mod Pairing
