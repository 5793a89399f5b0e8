-- What the demands say, as statements: runs of events, fairness, states, elections, waiting counts, the round trip of a table, the most stages, cloned cards,
-- the waiting report, the listing, and lent memory.
pub mod Runs
pub mod Fairness
pub mod States
pub mod Elections
pub mod Next
pub mod Counts
pub mod RoundTrip
pub mod Settling
pub mod Clones
pub mod WaitingReport
pub mod Listing
pub mod Buffers
