pub mod Fields
pub mod Heads
pub mod Met
pub mod Views
