pub mod Signalling
pub mod Telling
pub mod Waking
pub mod Turning
pub mod Starting
