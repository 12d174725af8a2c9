pub mod Apart
pub mod Operations
pub mod Renaming
pub mod Requests
pub mod Stretching
