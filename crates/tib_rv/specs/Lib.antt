pub mod CheckAndField
pub mod KthTold
pub mod internal
