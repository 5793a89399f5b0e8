pub mod Marks
pub mod Rules
pub mod Sets
pub mod Counts
pub mod Look
