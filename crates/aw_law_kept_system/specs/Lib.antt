pub mod KeptSystems
pub mod Runs
pub mod Worked
