pub mod Prefixes
pub mod FrameReadAnswers
pub mod FrameWriteAnswers
pub mod Accepted
pub mod ReadBack
pub mod Samples
