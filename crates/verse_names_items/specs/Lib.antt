pub mod Rules
pub mod Nodes
pub mod Faults
pub mod Tables
pub mod Making
