pub mod Emitting
pub mod ExpressionCode
pub mod Generates
