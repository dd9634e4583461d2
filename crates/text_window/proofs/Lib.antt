pub mod Windows
pub mod Prints
pub mod Pieces
pub mod Numbers
pub mod Decimals
