pub mod Numbers
pub mod Signs
pub mod Leads
pub mod Coded
pub mod Shortness
