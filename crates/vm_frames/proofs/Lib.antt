pub mod Whole
mod Popped
mod Anywhere
mod Unwound
mod RuleSets
