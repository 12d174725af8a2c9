pub mod Numbers
pub mod Round
