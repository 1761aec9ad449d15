pub mod Shapes
pub mod Bodies
pub mod Inheriting
pub mod Main
pub mod Programs
pub mod Told
pub mod Whole
