pub mod Bounded
pub mod Least
