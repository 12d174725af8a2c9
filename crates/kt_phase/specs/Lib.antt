pub mod Barrier
pub mod Counters
