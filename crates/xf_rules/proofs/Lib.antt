pub mod Exact
pub mod Planned
pub mod Rows
