pub mod Idle
pub mod Asleep
pub mod Results
