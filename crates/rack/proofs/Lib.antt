pub mod Formed
pub mod Recount
pub mod Refusals
pub mod Results
pub mod Determined
