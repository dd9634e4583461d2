pub mod Levels
pub mod SoundStates
pub mod Tags
pub mod Conditions
pub mod CallResults
pub mod Added
pub mod TagKinds
pub mod ByOctets
