pub mod Conditions
pub mod Descriptions
pub mod Tables
pub mod Parts
pub mod Subtables
pub mod Made
pub mod Whole
