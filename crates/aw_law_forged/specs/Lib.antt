pub mod Forged
pub mod Told
pub mod Worked
