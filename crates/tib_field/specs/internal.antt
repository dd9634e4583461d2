pub mod Zeros
pub mod KthOf
pub mod Measured
