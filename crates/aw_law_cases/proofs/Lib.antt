pub mod CaseWorlds
pub mod Choices
pub mod Keeping
pub mod Making
pub mod Receiving
pub mod Sending
pub mod Ties
