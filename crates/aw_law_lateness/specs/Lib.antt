pub mod Lateness
pub mod Sending
pub mod Worked
