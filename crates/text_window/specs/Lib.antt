pub mod Ascii
pub mod Digits
pub mod Window
pub mod ReadDecimal
