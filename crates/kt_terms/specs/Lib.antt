pub mod Arguments
pub mod Specials
pub mod Spellings
