pub mod Entry
pub mod Load
pub mod Valid
pub mod Records
pub mod internal
