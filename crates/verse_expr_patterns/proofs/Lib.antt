pub mod Arms
pub mod ArmRests
pub mod RuleSets
