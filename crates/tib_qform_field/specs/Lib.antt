pub mod Layout
pub mod Reading
pub mod FirstFault
pub mod internal
