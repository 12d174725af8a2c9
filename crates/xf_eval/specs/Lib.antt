pub mod Steps
pub mod Operands
pub mod Readings
pub mod Asked
pub mod Parts
pub mod ByNumber
