pub mod Reading
pub mod Refusals
pub mod Checks
pub mod internal
