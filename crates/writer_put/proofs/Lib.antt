pub mod PutResults
pub mod Before
pub mod OctetKinds
pub mod ByTag
