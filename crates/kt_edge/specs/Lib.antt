pub mod Calls
pub mod Count
pub mod FileMap
pub mod Memory
pub mod Writes
