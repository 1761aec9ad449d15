pub mod Names
pub mod Numbers
pub mod Format
pub mod Laws
