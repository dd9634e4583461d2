pub mod Sound
pub mod Finished
pub mod Calls
pub mod Call
pub mod Answer
pub mod Results
pub mod ByOctets
pub mod internal
