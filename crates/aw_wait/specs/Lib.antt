pub mod Waiting
pub mod Seeding
pub mod Refusals
pub mod Worked
