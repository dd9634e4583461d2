pub mod Frame
pub mod WholeFrame
pub mod ReadBack
pub mod internal
