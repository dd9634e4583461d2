pub mod Headers
pub mod MessageLoop
pub mod GoodFields
pub mod Kths
pub mod Places
pub mod Checks
pub mod Faults
