mod Framed
mod Opened
mod Bounded
mod Unwound
mod Anywhere
mod RuleSets
