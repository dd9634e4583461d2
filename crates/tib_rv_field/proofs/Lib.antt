pub mod Counts
pub mod Steps
pub mod WrongFields
pub mod Accepted
pub mod StepTests
pub mod Announced
pub mod FirstFault
pub mod Refusals
