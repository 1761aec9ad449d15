pub mod Deferred
pub mod Turns
pub mod Settled
pub mod Conditions
pub mod Defined
