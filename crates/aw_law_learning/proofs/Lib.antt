pub mod Leading
pub mod Learning
pub mod Working
