pub mod Verdicts
pub mod Orders
pub mod Indexes
pub mod SmallFields
pub mod Spans
pub mod LookupUnder
pub mod Stores
pub mod ShortenUnder
