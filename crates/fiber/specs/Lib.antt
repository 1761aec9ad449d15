pub mod Frames
pub mod Calls
pub mod Opening
pub mod Bounding
pub mod Framing
pub mod FramesView
