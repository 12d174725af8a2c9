pub mod Judged
pub mod Views
