pub mod Suspending
pub mod Laws
