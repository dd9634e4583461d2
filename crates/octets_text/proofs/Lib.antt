pub mod Leads
pub mod Plain
pub mod Judging
pub mod Turns
pub mod Characters
