pub mod Blocks
pub mod Built
pub mod Files
pub mod Named
pub mod Shapes
pub mod Stages
pub mod Assembly
