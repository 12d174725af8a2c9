pub mod Objects
pub mod Keys
pub mod Keyed
pub mod Heap
pub mod ByNumber
pub mod Chain
pub mod Inside
