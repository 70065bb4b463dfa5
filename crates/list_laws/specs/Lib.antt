pub mod Says
pub mod Answering
pub mod Rising
pub mod Standing
pub mod Growing
