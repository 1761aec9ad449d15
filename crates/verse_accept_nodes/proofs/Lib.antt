mod Tokens
mod Toks
mod Many
mod Texts
pub mod Fine
mod Reading
mod ReadingItems
mod Files
mod ByParts
mod Settled
mod Plain
mod Visited
mod Enums
mod Rules
pub mod Accepted
