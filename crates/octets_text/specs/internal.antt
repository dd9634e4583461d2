pub mod Plain
pub mod Pending
pub mod Character
