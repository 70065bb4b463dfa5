pub mod Halving
pub mod Inserting
pub mod KeyOrder
pub mod Picks
pub mod Puts
pub mod Shifts
