pub mod Coded
pub mod Fields
pub mod Heads
pub mod Nexts
pub mod Notes
pub mod FieldsByHead
