pub mod Pair
pub mod Stored
pub mod VersionActs
