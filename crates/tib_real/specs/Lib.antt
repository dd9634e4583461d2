pub mod Parts
pub mod Widened
pub mod FromOctets
pub mod WholeNumber
pub mod InNumbers
pub mod InFractions
pub mod Reads
