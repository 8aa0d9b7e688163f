pub mod Nodes
pub mod Told
pub mod Crashes
pub mod Couriers
pub mod Worked
pub mod Ending
pub mod Sizes
pub mod Encodable
