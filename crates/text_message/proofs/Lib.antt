pub mod Values
pub mod CountLoop
pub mod WriteLoop
pub mod Lengths
pub mod MessageText
