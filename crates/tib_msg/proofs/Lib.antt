pub mod TraverseLoop
pub mod GoodFields
pub mod Kths
pub mod Shows
pub mod Places
pub mod Checks
pub mod Faults
