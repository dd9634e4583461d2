pub mod Words
pub mod internal
