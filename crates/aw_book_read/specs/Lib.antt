pub mod Heads
pub mod EventLines
pub mod Checks
