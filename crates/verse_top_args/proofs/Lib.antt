pub mod NumberLemmas
pub mod OptionLemmas
pub mod FileLemmas
pub mod CommandLemmas
