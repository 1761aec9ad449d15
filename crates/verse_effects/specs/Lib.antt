pub mod Callees
pub mod Forms
pub mod Specifiers
pub mod Rules
