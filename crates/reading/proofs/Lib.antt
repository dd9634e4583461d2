pub mod Checks
pub mod Adding
pub mod Traversal
pub mod Numbers
