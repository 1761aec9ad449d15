pub mod Operations
pub mod Validity
pub mod Forms
pub mod Agreement
