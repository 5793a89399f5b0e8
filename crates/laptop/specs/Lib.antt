pub mod Words
pub mod Settle
pub mod Table
