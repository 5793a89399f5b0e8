pub mod Replays
pub mod Report
