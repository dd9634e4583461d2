pub mod Record
pub mod Pass
pub mod Cells
