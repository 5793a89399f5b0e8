pub mod Digits
pub mod Rows
pub mod Results
pub mod Determined
