pub mod Tests
pub mod Steps
pub mod Octets
pub mod Accepted
pub mod FirstFault
pub mod Refusals
