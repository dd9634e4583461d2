pub mod Stores
pub mod Found
