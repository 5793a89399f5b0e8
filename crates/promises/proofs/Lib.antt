-- The demands proved: fairness (Sums to Fairness) and the same of a listing, states, waiting counts (OthersLeft, Counts), the round trip of a table, the
-- most stages, the waiting report, lent memory, and cloned cards.
pub mod Sums
pub mod Turns
pub mod Potentials
pub mod Batches
pub mod Share
pub mod Limits
pub mod Topped
pub mod Fairness
pub mod Listing
pub mod States
pub mod Elections
pub mod Next
pub mod OthersLeft
pub mod Counts
pub mod RoundTrip
pub mod Settling
pub mod Slowest
pub mod GrantsCounted
pub mod WaitingReport
pub mod Buffers
pub mod Clones
