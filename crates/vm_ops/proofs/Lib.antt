pub mod Chars
pub mod Equal
pub mod Shown
pub mod Entered
pub mod Elements
pub mod RuleSets
