pub mod Among
pub mod Numbers
pub mod Reaching
pub mod Conversions
pub mod NewTypes
pub mod TypedImages
