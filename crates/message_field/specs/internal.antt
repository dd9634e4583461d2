pub mod Heads
pub mod Nexts
