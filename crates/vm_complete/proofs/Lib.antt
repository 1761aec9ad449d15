pub mod Items
pub mod Runs
pub mod Leaving
pub mod Joining
pub mod Resting
pub mod Above
pub mod RootEnds
pub mod PartEnds
