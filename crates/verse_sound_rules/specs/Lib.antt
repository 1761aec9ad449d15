pub mod Found
pub mod Forms
pub mod Fine
pub mod Programs
