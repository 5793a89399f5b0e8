pub mod Tally
pub mod Room
pub mod History
pub mod Ledger
pub mod Counted
pub mod Tallied
