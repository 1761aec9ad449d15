pub mod Again
pub mod Alike
pub mod Runs
pub mod Laws
