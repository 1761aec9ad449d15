pub mod Inside
pub mod Along
pub mod Ints
pub mod KeyPaths
