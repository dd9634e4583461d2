pub mod Signs
pub mod Forms
