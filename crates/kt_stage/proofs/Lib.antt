pub mod Asking
pub mod Lists
