pub mod Bytes
pub mod Gaps
pub mod Words
pub mod Numbers
pub mod Quotes
pub mod Tokens
pub mod Cover
