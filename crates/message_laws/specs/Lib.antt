pub mod Paths
pub mod OldTables
pub mod Swapped
pub mod Swaps
pub mod Samples
