pub mod Lists
mod Layered
mod Levelled
mod Headed
