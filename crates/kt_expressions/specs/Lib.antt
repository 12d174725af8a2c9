pub mod Formed
pub mod Arguments
