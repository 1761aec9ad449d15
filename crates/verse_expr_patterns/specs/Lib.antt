pub mod Arms
pub mod ArmRests
