pub mod Lists
pub mod Sites
pub mod Holding
pub mod Laws
