pub mod Causes
pub mod Circles
pub mod Coming
pub mod Orders
pub mod Picking
pub mod Reaching
pub mod Sameness
