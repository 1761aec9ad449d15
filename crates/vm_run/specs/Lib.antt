pub mod Origins
pub mod Standing
pub mod Turning
pub mod Carrying
pub mod Closing
pub mod Reaching
pub mod Saving
