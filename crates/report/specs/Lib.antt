pub mod Report
pub mod Text
