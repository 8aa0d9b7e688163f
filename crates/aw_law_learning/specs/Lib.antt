pub mod Learning
pub mod Working
pub mod Worked
