pub mod CodeSettling
pub mod Fitting
pub mod Rooms
pub mod Turned
mod Reversed
