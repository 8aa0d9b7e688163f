pub mod Roles
pub mod Declaring
pub mod Refusals
pub mod Exceeding
pub mod PartViews
pub mod Wholes
pub mod Worked
