pub mod Digits
pub mod Spaced
