pub mod Nearest
pub mod InDecimals
pub mod Reads
pub mod Samples
pub mod internal
