pub mod Fair
pub mod Still
pub mod Worked
