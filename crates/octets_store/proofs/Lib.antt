pub mod Room
pub mod Sets
pub mod Stores
pub mod Moves
pub mod StoreLoops
