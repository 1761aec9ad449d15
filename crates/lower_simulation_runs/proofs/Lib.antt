pub mod Runs
pub mod Entering
pub mod Starting
pub mod Firm
pub mod FirmForms
pub mod Binding
pub mod Standings
pub mod Placing
pub mod Numbering
pub mod Bodies
pub mod Fitting
pub mod Shaping
pub mod Forms
pub mod Programs
mod Example
