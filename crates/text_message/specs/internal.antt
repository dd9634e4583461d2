pub mod OfTree
