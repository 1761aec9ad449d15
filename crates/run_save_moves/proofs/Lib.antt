pub mod Values
pub mod Writes
pub mod Effects
pub mod EndsMove
pub mod ActsMove
