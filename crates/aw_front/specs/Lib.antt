pub mod Statuses
pub mod Refusals
pub mod Output
pub mod Opening
pub mod Replies
pub mod Fronts
