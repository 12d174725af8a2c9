pub mod Continuing
pub mod Keys
pub mod Ordering
pub mod Passing
pub mod Saying
