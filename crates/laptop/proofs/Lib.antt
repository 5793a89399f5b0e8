pub mod Pairs
pub mod Settle
pub mod TableBytes
pub mod Determined
