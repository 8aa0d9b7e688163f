pub mod Declares
pub mod Steps
pub mod Ends
pub mod Replayed
