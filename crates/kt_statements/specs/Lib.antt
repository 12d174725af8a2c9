pub mod Functions
pub mod Judged
pub mod Scopes
