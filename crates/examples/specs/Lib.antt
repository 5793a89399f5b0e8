pub mod Listing
pub mod KnownRules
pub mod Report
pub mod LateInhibition
