pub mod Store
pub mod internal
