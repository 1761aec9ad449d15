pub mod Framed
pub mod Calls
pub mod Entering
pub mod Machine
pub mod View
