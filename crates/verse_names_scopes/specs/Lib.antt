pub mod Visible
pub mod Subjects
pub mod Scopes
pub mod Visits
pub mod Naming
pub mod Views
