pub mod Arms
pub mod Puts
pub mod Putting
pub mod Restoring
pub mod Laws
