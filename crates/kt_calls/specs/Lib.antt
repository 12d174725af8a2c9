pub mod Arguments
pub mod Rules
pub mod Standpoints
