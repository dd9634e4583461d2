pub mod Tags
pub mod Found
pub mod Starts
