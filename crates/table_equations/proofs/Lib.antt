pub mod Slots
pub mod Patterns
