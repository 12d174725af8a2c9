mod Askings
mod Calls
mod Converted
pub mod Lists
mod Pieces
mod Taken
pub mod Leaves
