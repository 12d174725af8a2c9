pub mod Pairs
pub mod Parts
pub mod Steps
pub mod Syntax
