pub mod Numbers
pub mod Telling
pub mod Declared
pub mod Inheriting
pub mod Entries
pub mod Bodies
pub mod Classes
pub mod Whole
