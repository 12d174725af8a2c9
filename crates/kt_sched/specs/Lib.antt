pub mod Choice
pub mod Enabled
pub mod GeneratedJob
