pub mod Checking
pub mod Entering
pub mod Interning
pub mod Numbers
pub mod Regions
pub mod SameLists
pub mod Spans
