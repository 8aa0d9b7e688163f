pub mod Broken
pub mod Course
pub mod Frames
pub mod Served
pub mod Sessions
pub mod Steps
pub mod Talking
