pub mod Accepts
pub mod Short
pub mod Notes
