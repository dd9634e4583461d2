pub mod CheckAndField
pub mod InNumbers
pub mod Answers
pub mod KthTold
pub mod Samples
pub mod internal
