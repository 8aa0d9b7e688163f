pub mod Draws
pub mod Specification
pub mod Turns
pub mod Counts
pub mod Summaries
pub mod Comes
pub mod Told
pub mod Laws
