pub mod Heres
pub mod Mades
