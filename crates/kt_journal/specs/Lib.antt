pub mod Grammar
pub mod Journal
pub mod Kept
pub mod Marks
pub mod Reading
pub mod Runs
pub mod Written
