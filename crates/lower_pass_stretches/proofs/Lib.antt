pub mod Names
pub mod Going
pub mod Single
pub mod Begins
pub mod Combined
pub mod Inside
