pub mod Rests
pub mod StopsWith
