pub mod Meaning
pub mod Programs
pub mod Loading
pub mod Loaded
pub mod Answers
pub mod Ends
pub mod Fronted
pub mod Statuses
