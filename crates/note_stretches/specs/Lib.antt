pub mod Noted
pub mod Forms
