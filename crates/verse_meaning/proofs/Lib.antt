pub mod Names
pub mod Keeping
mod Forms
mod Evaluating
mod Going
mod Standing
mod Contexts
mod Backwards
mod Groups
pub mod Following
mod FollowingForms
mod FollowingEvaluating
mod FollowingGoing
mod Counting
mod Agreeing
mod AgreeingForms
mod AgreeingEvaluating
mod AgreeingGoing
mod Waiting
mod WaitingForms
mod WaitingEvaluating
mod WaitingGoing
mod Numbering
mod NumberingForms
mod NumberingEvaluating
mod NumberingGoing
mod Losing
mod Examples
mod TaskExamples
