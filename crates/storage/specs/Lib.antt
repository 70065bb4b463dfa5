pub mod Deltas
pub mod Entries
pub mod Interners
