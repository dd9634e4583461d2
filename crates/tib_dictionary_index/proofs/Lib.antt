pub mod Fronts
pub mod NoteLoops
pub mod Stored
pub mod LoadResults
