pub mod Lists
pub mod Order
pub mod Leaves
pub mod Shapes
mod FieldLists
