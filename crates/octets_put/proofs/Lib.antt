pub mod Digits
pub mod Least
