pub mod Opens
pub mod Closes
